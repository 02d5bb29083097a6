-- What parts of a network do in a phase.
use Rattle.std.proofs.Common.{◌≡◌, inl, inr, if◌then◌else◌, ◌&&◌, Bool, true, false, ℕ, ◌<◌, ◌≤◌, nat_lt, List, [], ◌++◌, length, map, refl, ap, sym, ◌∙◌, subst, arith}
use Rattle.std.proofs.Math.Path.{fun_ext}
use Rattle.std.proofs.lemmas.Bool.{cases_lt, lt-ltb, ltb-true}
use Rattle.std.proofs.lemmas.List.{get_or_past}
use Rattle.std.proofs.lemmas.List.FromFn.{get_or-map-range_with_len, length-map-range_with_len}
use Rattle.mc_box.specs.Boxes.{BoxState, box_owes, is_slot, no_box}
use Rattle.mc_model.specs.Settles.{world_owes}
use Rattle.mc_model.specs.Worlds.{WorldState, box_at}
use Rattle.mc_merge.specs.Lanes.{leads_from, leads_to}
use Rattle.mc_model.specs.Worlds.{ChannelState}
use Rattle.mc_merge.specs.Weaving.{log_at}
use Rattle.mc_merge.specs.Logs.{own_log}
use Rattle.mc_merge.specs.Phases.{AreEmptied, IsApart, IsDrained, IsLayout, IsMerge, IsPhase, IsUse, Layout, box_in}
use Rattle.mc_merge.specs.Together.{Ran}
use Rattle.mc_merge.specs.Wholes.{AreHomes, made_of, numbers_in}
use Rattle.mc_merge.specs.declared.log.Made.{Made}
use Rattle.mc_merge.proofs.Phases.{phase_goes_on, phase_keeps_sound, phase_plays}
use Rattle.mc_part.specs.Networks.{AreCarried, AreLogs, AreParts, HaveHomes, HaveRun, LeadsAcross, PartsGoOn, PartsKeepSound, PartsPlay, given_on, received_on, shifts_in, states_of, stimuli_in, tables_at, world_by}
use Rattle.mc_part.specs.Parts.{state_of, tables_of}
use Rattle.mc_part.specs.declared.part.Part.{Part}
use Rattle.mc_part.proofs.Draining.{rings_are_drained}

-- ---- what each part did

abbrev pub ran_of : (retries : Bool) (old new : ℕ → Part) → HaveRun retries old new → ℕ → Ran
ran_of retries old new runs part = record {
  tables = tables_of (old part);
  old = state_of (old part);
  new = state_of (new part);
  log = (runs part).run.log;
  gave = (runs part).gave;
  put = (runs part).put;
}

across : (base : WorldState) (layout : Layout) (retries : Bool) (old new : ℕ → Part) (runs : HaveRun retries old new) (lane : ℕ) → lane < length base.lanes
    → IsApart layout (tables_at old) (states_of old) lane → LeadsAcross base layout new lane
across base layout retries old new runs lane inside apart = (
  inside,
  record {
    away = subst (λ (w : WorldState). length (new (layout.senders lane).0).engine.boxes ≤ leads_to w (layout.senders lane).1) (sym (same_tables (layout.senders lane).0))
        (subst (λ (n : ℕ). n ≤ leads_to (tables_of (old (layout.senders lane).0)) (layout.senders lane).1) (sym (runs (layout.senders lane).0).run.spanned.work.box_count) apart.away);
    off = subst (λ (w : WorldState). length (new (layout.takers lane).0).engine.boxes ≤ leads_from w (layout.takers lane).1) (sym (same_tables (layout.takers lane).0))
        (subst (λ (n : ℕ). n ≤ leads_from (tables_of (old (layout.takers lane).0)) (layout.takers lane).1) (sym (runs (layout.takers lane).0).run.spanned.work.box_count) apart.off);
  },
)
  where
    same_tables : (part : ℕ) → tables_of (new part) ≡ tables_of (old part)
    same_tables part = ap (λ (channels : List ChannelState). record { boxes = []; channels = channels; lanes = [] }) (runs part).run.channels

drained_lane : (base : WorldState) (layout : Layout) (retries : Bool) (old new drained : ℕ → Part) (runs : HaveRun retries old new) → AreParts base layout old → AreCarried base layout new drained
    → (lane : ℕ) → lane < length base.lanes → IsApart layout (tables_at old) (states_of old) lane → IsDrained layout (ran_of retries old new runs) (states_of drained) lane
drained_lane base layout retries old new drained runs parts carried lane inside apart =
    let is = carried.crossing lane (across base layout retries old new runs lane inside apart) in
    rings_are_drained layout (ran_of retries old new runs) (states_of drained) lane (record {
      received = received_on layout old lane;
      received_2 = received_on layout new lane;
      given = given_on layout old lane;
      given_2 = given_on layout new lane;
      left = is.left;
      even = parts.even lane (inside, apart);
      gave = (runs (layout.takers lane).0).run.spanned.received (layout.takers lane).1;
      put = (runs (layout.senders lane).0).run.spanned.given (layout.senders lane).1;
      all = is.all;
      rest = is.rest;
      empty = is.empty;
    })

pub phase_of : (base : WorldState) (layout : Layout) (retries : Bool) (old new drained : ℕ → Part) (runs : HaveRun retries old new) → AreParts base layout old → AreCarried base layout new drained
    → IsPhase base layout (ran_of retries old new runs) (states_of drained)
phase_of base layout retries old new drained runs parts carried = record {
  laid = parts.laid;
  empty = parts.empty;
  worked = λ part. (runs part).run.spanned.work;
  boxes = carried.boxes;
  lane_counts = carried.lane_counts;
  inner = carried.inner;
  crossing = drained_lane base layout retries old new drained runs parts carried;
}

-- ---- their logs

kept_log : (log made : List Made) (before after : List Made) → before ≡ [] → after ≡ before ++ log → made ≡ after → log ≡ made
kept_log log made before after none longer is = sym (is ∙ (longer ∙ ap (λ (l : List Made). l ++ log) none))

pub homes_of : (base : WorldState) (layout : Layout) (retries : Bool) (old new : ℕ → Part) (runs : HaveRun retries old new) (numbers : List (List ℕ)) → HaveHomes layout numbers old (length base.boxes)
    → AreHomes layout.homes (ran_of retries old new runs) (numbers_in numbers) (length base.boxes)
homes_of base layout retries old new runs numbers homes = record {
  back = homes.back;
  there = homes.there;
  inside = homes.inside;
  known = λ part. (runs part).run.spanned.known;
}

merge_of : (base : WorldState) (layout : Layout) (retries : Bool) (old new : ℕ → Part) (runs : HaveRun retries old new) (numbers : List (List ℕ)) (clock : ℕ → ℕ) (made : List (List Made)) (woven : List (ℕ × Made))
    → AreLogs base layout old new numbers clock made woven → IsMerge base layout (ran_of retries old new runs) numbers clock made woven
merge_of base layout retries old new runs numbers clock made woven logs = record {
  homes_are = homes_of base layout retries old new runs numbers logs.homes;
  kept = λ part. kept_log (map made_of (runs part).run.log) (log_at made part) (old part).log.items (new part).log.items (logs.none part) (runs part).run.logged (logs.logs part);
  weave = logs.weave;
  share = logs.share;
}

-- ---- what is owed

not_below : (n : ℕ) (test : Bool) → nat_lt n 0 ≡ test → test ≡ false
not_below n true is = let below : n < 0 = ltb-true n 0 is in absurd (omega arith)
not_below n false is = refl

none_below : (n : ℕ) → nat_lt n 0 ≡ false
none_below n = not_below n (nat_lt n 0) refl

-- no box owes nothing
none_owed : (here : Bool) (box : BoxState) (local : ℕ) → box ≡ no_box → here && is_slot box local && box_owes box local ≡ false
none_owed true box local is =
    ap (λ (b : BoxState). is_slot b local && box_owes b local) is ∙ ap (λ (t : Bool). t && box_owes no_box local) (none_below local)
none_owed false box local is = refl

-- a box owes in the network what it owes in its part
pub owed_same : (base : WorldState) (layout : Layout) (old : ℕ → Part) (who local : ℕ) → AreParts base layout old
    → world_owes (world_by base layout old) who local ≡ world_owes (old (layout.homes who).0).engine (layout.homes who).1 local
owed_same base layout old who local parts = elim (cases_lt who (length base.boxes)) [
  | inl inside ↦ elim (cases_lt (layout.homes who).1 (length (old (layout.homes who).0).engine.boxes)) [
    | inl here ↦
        ap (λ (t : Bool). t && is_slot (box_at (world_by base layout old) who) local && box_owes (box_at (world_by base layout old) who) local) (lt-ltb who (length (world_by base layout old).boxes) (subst (λ (n : ℕ). who < n) (sym count) inside))
        ∙ (ap (λ (b : BoxState). true && is_slot b local && box_owes b local) (box inside)
        ∙ ap (λ (t : Bool). t && is_slot (box_at (old (layout.homes who).0).engine (layout.homes who).1) local && box_owes (box_at (old (layout.homes who).0).engine (layout.homes who).1) local) (sym (lt-ltb (layout.homes who).1 (length (old (layout.homes who).0).engine.boxes) here)))
    | inr past ↦
        none_owed (nat_lt who (length (world_by base layout old).boxes)) (box_at (world_by base layout old) who) local (box inside ∙ get_or_past (old (layout.homes who).0).engine.boxes (layout.homes who).1 no_box past)
        ∙ sym (none_owed (nat_lt (layout.homes who).1 (length (old (layout.homes who).0).engine.boxes)) (box_at (old (layout.homes who).0).engine (layout.homes who).1) local (get_or_past (old (layout.homes who).0).engine.boxes (layout.homes who).1 no_box past))
  ]
  | inr outside ↦
      none_owed (nat_lt who (length (world_by base layout old).boxes)) (box_at (world_by base layout old) who) local (get_or_past (world_by base layout old).boxes who no_box (subst (λ (n : ℕ). n ≤ who) (sym count) outside))
      ∙ sym (none_owed (nat_lt (layout.homes who).1 (length (old (layout.homes who).0).engine.boxes)) (box_at (old (layout.homes who).0).engine (layout.homes who).1) local
      (get_or_past (old (layout.homes who).0).engine.boxes (layout.homes who).1 no_box (parts.laid.none who outside)))
]
  where
    count : length (world_by base layout old).boxes ≡ length base.boxes
    count = length-map-range_with_len (box_in layout (states_of old)) 0 (length base.boxes)

    box : who < length base.boxes → box_at (world_by base layout old) who ≡ box_at (old (layout.homes who).0).engine (layout.homes who).1
    box inside = get_or-map-range_with_len (box_in layout (states_of old)) 0 (length base.boxes) who who no_box inside (omega arith)

uses_of_all : (base : WorldState) (layout : Layout) (retries : Bool) (old new : ℕ → Part) (runs : HaveRun retries old new) → AreParts base layout old → (who : ℕ)
    → IsUse (λ local. if retries && world_owes (world_by base layout old) who local then 1 else 0) (own_log (layout.homes who).1 (runs (layout.homes who).0).run.log)
    (stimuli_in layout old who) (stimuli_in layout new who) (shifts_in layout old who) (shifts_in layout new who)
uses_of_all base layout retries old new runs parts who =
    let is = (runs (layout.homes who).0).run.uses (layout.homes who).1 in
    record {
      commands = is.commands;
      shifts_are = is.shifts_are;
      few = is.few;
      retried = λ local. is.retried local ∙ sym (ap (λ (t : Bool). if retries && t then 1 else 0) (owed_same base layout old who local parts));
    }

pub parts_play : PartsPlay
parts_play retries base layout old new drained numbers clock made woven parts runs carried logs =
    phase_plays retries base layout (ran_of retries old new runs) (states_of drained) numbers clock made woven (stimuli_in layout old) (stimuli_in layout new) (shifts_in layout old) (shifts_in layout new)
    (phase_of base layout retries old new drained runs parts carried) (merge_of base layout retries old new runs numbers clock made woven logs) (uses_of_all base layout retries old new runs parts)

-- ---- the next phase

same_channels : (base : WorldState) (layout : Layout) (retries : Bool) (old new drained : ℕ → Part) (runs : HaveRun retries old new) → AreCarried base layout new drained → tables_at old ≡ tables_at drained
same_channels base layout retries old new drained runs carried =
    fun_ext (λ part. ap (λ (channels : List ChannelState). record { boxes = []; channels = channels; lanes = [] }) (sym (carried.channels part ∙ (runs part).run.channels)))

boxes_stay : (base : WorldState) (layout : Layout) (retries : Bool) (old new drained : ℕ → Part) (runs : HaveRun retries old new) → AreCarried base layout new drained
    → (part : ℕ) → length (new part).engine.boxes ≡ length (drained part).engine.boxes
boxes_stay base layout retries old new drained runs carried part = ap (λ (l : List BoxState). length l) (sym (carried.boxes part))

apart_new : (base : WorldState) (layout : Layout) (retries : Bool) (old new drained : ℕ → Part) (runs : HaveRun retries old new) → AreCarried base layout new drained → (lane : ℕ)
    → IsApart layout (tables_at drained) (states_of drained) lane → IsApart layout (tables_at new) (states_of new) lane
apart_new base layout retries old new drained runs carried lane apart = record {
  away = subst (λ (n : ℕ). n ≤ leads_to (tables_of (new (layout.senders lane).0)) (layout.senders lane).1) (sym (boxes_stay base layout retries old new drained runs carried (layout.senders lane).0))
      (subst (λ (w : WorldState). length (drained (layout.senders lane).0).engine.boxes ≤ leads_to w (layout.senders lane).1) (same (layout.senders lane).0) apart.away);
  off = subst (λ (n : ℕ). n ≤ leads_from (tables_of (new (layout.takers lane).0)) (layout.takers lane).1) (sym (boxes_stay base layout retries old new drained runs carried (layout.takers lane).0))
      (subst (λ (w : WorldState). length (drained (layout.takers lane).0).engine.boxes ≤ leads_from w (layout.takers lane).1) (same (layout.takers lane).0) apart.off);
}
  where
    same : (part : ℕ) → tables_of (drained part) ≡ tables_of (new part)
    same part = ap (λ (channels : List ChannelState). record { boxes = []; channels = channels; lanes = [] }) (carried.channels part)

pub parts_go_on : PartsGoOn
parts_go_on retries base layout old new drained parts runs carried =
    let goes = phase_goes_on base layout (ran_of retries old new runs) (states_of drained) (phase_of base layout retries old new drained runs parts carried) in
    let same = same_channels base layout retries old new drained runs carried in
    record {
      laid = subst (λ (tables : ℕ → WorldState). IsLayout base layout tables (states_of drained)) same goes.0;
      empty = subst (λ (tables : ℕ → WorldState). AreEmptied base layout tables (states_of drained)) same goes.1;
      even = λ lane across. (carried.crossing lane (across.0, apart_new base layout retries old new drained runs carried lane across.1)).even;
    }

pub parts_keep_sound : PartsKeepSound
parts_keep_sound retries base layout old new drained numbers parts runs carried homes sound =
    phase_keeps_sound base layout (ran_of retries old new runs) (states_of drained) (numbers_in numbers) (phase_of base layout retries old new drained runs parts carried)
    (homes_of base layout retries old new runs numbers homes) sound
