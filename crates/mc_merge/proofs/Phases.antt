-- A phase of parts is a run of the world that they stand for.
use Rattle.std.proofs.Common.{◌≡◌, ◌≢◌, inl, inr, ◌&&◌, ◌||◌, ◌==◌, Bool, true, false, count_by, if◌then◌else◌, ℕ, ◌+◌, ◌<◌, ◌≤◌, IsTrue, List, [], ◌∷◌, ◌++◌, length, map, suc, refl, ap, sym, ◌∙◌, subst, arith}
use Rattle.std.specs.List.{AllByRecursion, filter, list_any, range_with_len}
use Rattle.std.proofs.Math.ListN.{get_or}
use Rattle.std.proofs.lemmas.Bool.{cases_lt, eqb-true}
use Rattle.std.proofs.lemmas.List.{get_or_past, map-append}
use Rattle.std.proofs.lemmas.List.FromFn.{get_or-map-range_with_len, length-map-range_with_len}
use Rattle.std.proofs.lemmas.List.Sums.{length-filter}
use Rattle.mc_box.specs.BoxEvents.{is_command, is_shift, turn_of}
use Rattle.mc_box.specs.Boxes.{BoxState, no_box}
use Rattle.mc_box.specs.declared.event.Event.{Event}
use Rattle.mc_box.specs.declared.event.Turn.{Turn}
use Rattle.mc_port.specs.Entries.{Entry}
use Rattle.mc_merge.specs.LaneLogs.{log_of}
use Rattle.mc_merge.specs.Lanes.{leads_from, leads_to}
use Rattle.mc_model.specs.Settles.{is_retry_at, of_kind}
use Rattle.mc_model.specs.Worlds.{WorldState}
use Rattle.mc_merge.specs.Account.{PartState}
use Rattle.mc_merge.specs.Logs.{Own, own_log}
use Rattle.mc_merge.specs.Together.{ArePartsOf, Crosses, IsInner, Ran, Sends, StandsIn, Takes}
use Rattle.mc_signal.specs.declared.Tagged.{Tagged}
use Rattle.mc_merge.specs.Merging.{IsLogged}
use Rattle.mc_merge.specs.LaneLogs.{without_stamps}
use Rattle.mc_merge.proofs.Fronts.{fronts_are_lawful}
use Rattle.mc_merge.proofs.Merging.{merge_keeps_sound}
use Rattle.mc_merge.proofs.Together.{parts_are_logged}
use Rattle.mc_merge.specs.Phases.{EntriesAreTurns, IsApart, IsMerge, IsPhase, Layout, NoneStrange, PhaseGoesOn, PhaseIsRun, PhaseKeepsSound, PhasePlays, SendsAt, before_ring, box_in, lane_in, stands_for}
use Rattle.mc_merge.specs.Weaving.{turn_in}
use Rattle.mc_merge.specs.Order.{ShareClocks}
use Rattle.mc_merge.specs.Wholes.{AreHomes, Numbers, box_clock, numbers_in}
use Rattle.mc_merge.specs.declared.log.Made.{Made}
use Rattle.mc_merge.proofs.Wholes.{merged_in_order, merged_is_run}

abbrev olds : (ℕ → Ran) → ℕ → PartState
olds parts part = (parts part).old

abbrev news : (ℕ → Ran) → ℕ → PartState
news parts part = (parts part).new

abbrev tables_of : (ℕ → Ran) → ℕ → WorldState
tables_of parts part = (parts part).tables

-- ---- logs of the world's boxes

abbrev own_at : Layout → (ℕ → Ran) → ℕ → List Entry
own_at layout parts who = own_log (layout.homes who).1 (parts (layout.homes who).0).log

abbrev world_logs : WorldState → Layout → (ℕ → Ran) → List (List Entry)
world_logs base layout parts = map (own_at layout parts) (range_with_len 0 (length base.boxes))

not_here : (test : Bool) (entry : Entry) (entries : List Entry) → (test ≡ true → ⊥) → (if test then entry ∷ [] else []) ++ entries ≡ entries
not_here true entry entries apart = absurd (apart refl)
not_here false entry entries apart = refl

no_entries : (log : List Own) (at count : ℕ) → count ≤ at → AllByRecursion (λ (own : Own). own.who < count) log → own_log at log ≡ []
no_entries [] at count outside known = refl
no_entries (own ∷ log) at count outside known =
    not_here (own.who == at) own.entry (own_log at log) (λ is. let same : own.who ≡ at = eqb-true own.who at is in let below : own.who < count = known.0 in omega arith)
    ∙ no_entries log at count outside known.1

logs_are : (base : WorldState) (layout : Layout) (parts : ℕ → Ran) (drained : ℕ → PartState) (numbers : Numbers) → IsPhase base layout parts drained → AreHomes layout.homes parts numbers (length base.boxes)
    → (who : ℕ) → log_of (world_logs base layout parts) who ≡ own_at layout parts who
logs_are base layout parts drained numbers phase homes who = elim (cases_lt who (length base.boxes)) [
  | inl inside ↦ get_or-map-range_with_len (own_at layout parts) 0 (length base.boxes) who who [] inside (omega arith)
  | inr outside ↦
      get_or_past (world_logs base layout parts) who [] (subst (λ (n : ℕ). n ≤ who) (sym (length-map-range_with_len (own_at layout parts) 0 (length base.boxes))) outside)
      ∙ sym (no_entries (parts (layout.homes who).0).log (layout.homes who).1 (length (parts (layout.homes who).0).old.boxes) (phase.laid.none who outside) (homes.known (layout.homes who).0))
]

-- ---- boxes and lanes

box_is : (base : WorldState) (layout : Layout) (states : ℕ → PartState) (who : ℕ) → who < length base.boxes → get_or (stands_for base layout states).boxes who no_box ≡ box_in layout states who
box_is base layout states who inside = get_or-map-range_with_len (box_in layout states) 0 (length base.boxes) who who no_box inside (omega arith)

lane_is : (base : WorldState) (layout : Layout) (states : ℕ → PartState) (lane : ℕ) → lane < length base.lanes → get_or (stands_for base layout states).lanes lane [] ≡ lane_in layout states lane
lane_is base layout states lane inside = get_or-map-range_with_len (lane_in layout states) 0 (length base.lanes) lane lane [] inside (omega arith)

box_count : (base : WorldState) (layout : Layout) (states : ℕ → PartState) → length (stands_for base layout states).boxes ≡ length base.boxes
box_count base layout states = length-map-range_with_len (box_in layout states) 0 (length base.boxes)

lane_count : (base : WorldState) (layout : Layout) (states : ℕ → PartState) → length (stands_for base layout states).lanes ≡ length base.lanes
lane_count base layout states = length-map-range_with_len (lane_in layout states) 0 (length base.lanes)

stands : (base : WorldState) (layout : Layout) (parts : ℕ → Ran) (drained : ℕ → PartState) → IsPhase base layout parts drained → (who : ℕ) → who < length base.boxes
    → StandsIn (stands_for base layout (olds parts)) layout.homes parts (stands_for base layout drained).boxes who
stands base layout parts drained phase who inside = record {
  work = phase.worked (layout.homes who).0;
  before = sym (box_is base layout (olds parts) who inside);
  after = ap (λ (l : List BoxState). get_or l (layout.homes who).1 no_box) (sym (phase.boxes (layout.homes who).0)) ∙ sym (box_is base layout drained who inside);
  tunnels = phase.laid.tunnels who inside;
}

sends : (base : WorldState) (layout : Layout) (parts : ℕ → Ran) (drained : ℕ → PartState) → IsPhase base layout parts drained → (lane part at : ℕ) → SendsAt base layout (tables_of parts) (olds parts) lane part at
    → Sends (stands_for base layout (olds parts)) layout.homes parts lane part at
sends base layout parts drained phase lane part at is = record { work = phase.worked part; there = is.there; here = is.here; home = is.home; tunnels = is.tunnels }

takes : (base : WorldState) (layout : Layout) (parts : ℕ → Ran) (drained : ℕ → PartState) → IsPhase base layout parts drained → (lane : ℕ) → lane < length base.lanes
    → Takes (stands_for base layout (olds parts)) layout.homes parts lane (layout.takers lane).0 (layout.takers lane).1
takes base layout parts drained phase lane inside =
    let is = phase.laid.takes lane inside in
    record { work = phase.worked (layout.takers lane).0; there = is.there; here = is.here; home = is.home; tunnels = is.tunnels; waiting = sym (lane_is base layout (olds parts) lane inside) }

inner_lane : (base : WorldState) (layout : Layout) (parts : ℕ → Ran) (drained : ℕ → PartState) → IsPhase base layout parts drained → (lane : ℕ) → lane < length base.lanes → layout.senders lane ≡ layout.takers lane
    → IsInner (stands_for base layout (olds parts)) layout.homes parts lane (get_or (stands_for base layout drained).lanes lane [])
inner_lane base layout parts drained phase lane inside same = record {
  part = (layout.takers lane).0;
  at = (layout.takers lane).1;
  sends = subst (λ (place : ℕ × ℕ). Sends (stands_for base layout (olds parts)) layout.homes parts lane place.0 place.1) same
      (sends base layout parts drained phase lane (layout.senders lane).0 (layout.senders lane).1 (phase.laid.sends lane inside));
  takes = takes base layout parts drained phase lane inside;
  rest_is = lane_is base layout drained lane inside ∙ phase.inner lane inside same;
}

crossing_lane : (base : WorldState) (layout : Layout) (parts : ℕ → Ran) (drained : ℕ → PartState) → IsPhase base layout parts drained → (lane : ℕ) → lane < length base.lanes → IsApart layout (tables_of parts) (olds parts) lane
    → Crosses (stands_for base layout (olds parts)) layout.homes parts lane (get_or (stands_for base layout drained).lanes lane [])
crossing_lane base layout parts drained phase lane inside apart =
    let is = phase.crossing lane inside apart in
    record {
      from = (layout.senders lane).0;
      outer = (layout.senders lane).1;
      to = (layout.takers lane).0;
      inner = (layout.takers lane).1;
      sends = sends base layout parts drained phase lane (layout.senders lane).0 (layout.senders lane).1 (phase.laid.sends lane inside);
      takes = takes base layout parts drained phase lane inside;
      away = apart.away;
      off = apart.off;
      empty = phase.empty lane inside apart;
      left = is.left;
      ring = is.ring;
      rest_is = lane_is base layout drained lane inside ∙ is.rest;
    }

parts_of : (base : WorldState) (layout : Layout) (parts : ℕ → Ran) (drained : ℕ → PartState) (numbers : Numbers) → IsPhase base layout parts drained → AreHomes layout.homes parts numbers (length base.boxes)
    → ArePartsOf (stands_for base layout (olds parts)) layout.homes parts (world_logs base layout parts) (stands_for base layout drained).boxes (stands_for base layout drained).lanes
parts_of base layout parts drained numbers phase homes =
    let boxes = box_count base layout (olds parts) in
    let lanes = lane_count base layout (olds parts) in
    record {
      each_lane = lanes ∙ phase.laid.each_lane;
      log_count = length-map-range_with_len (own_at layout parts) 0 (length base.boxes) ∙ sym boxes;
      box_count = box_count base layout drained ∙ sym boxes;
      lane_count = lane_count base layout drained ∙ sym lanes;
      logs_are = logs_are base layout parts drained numbers phase homes;
      stand = λ who inside. stands base layout parts drained phase who (subst (λ (n : ℕ). who < n) boxes inside);
      carry = λ lane inside.
          let there = subst (λ (n : ℕ). lane < n) lanes inside in
          elim (phase.laid.kinds lane there) [
            | inl same ↦ inl (inner_lane base layout parts drained phase lane there same)
            | inr apart ↦ inr (crossing_lane base layout parts drained phase lane there apart)
          ];
    }

homes_of : (base : WorldState) (layout : Layout) (parts : ℕ → Ran) (numbers : List (List ℕ)) → AreHomes layout.homes parts (numbers_in numbers) (length base.boxes) → AreHomes layout.homes parts (numbers_in numbers) (length (stands_for base layout (olds parts)).boxes)
homes_of base layout parts numbers homes = subst (λ (n : ℕ). AreHomes layout.homes parts (numbers_in numbers) n) (sym (box_count base layout (olds parts))) homes

-- the boxes at both ends of a lane have the clock of their parts
share_clocks : (base : WorldState) (layout : Layout) (parts : ℕ → Ran) (drained : ℕ → PartState) (numbers : List (List ℕ)) (clock : ℕ → ℕ) (made : List (List Made)) (woven : List (ℕ × Made))
    → IsPhase base layout parts drained → IsMerge base layout parts numbers clock made woven → ShareClocks (stands_for base layout (olds parts)) (box_clock layout.homes clock)
share_clocks base layout parts drained numbers clock made woven phase merge lane inside =
    let there : lane < length base.lanes = subst (λ (n : ℕ). lane < n) (lane_count base layout (olds parts)) inside in
    let sends = phase.laid.sends lane there in
    let takes = phase.laid.takes lane there in
    ap (λ (home : ℕ × ℕ). clock home.0) sends.home ∙ (merge.share lane there ∙ sym (ap (λ (home : ℕ × ℕ). clock home.0) takes.home))

pub phase_is_run : PhaseIsRun
phase_is_run base layout parts drained numbers clock made woven phase merge =
    merged_is_run (stands_for base layout (olds parts)) layout.homes parts numbers clock (world_logs base layout parts) (stands_for base layout drained).boxes (stands_for base layout drained).lanes made woven
    (parts_of base layout parts drained (numbers_in numbers) phase merge.homes_are) (homes_of base layout parts numbers merge.homes_are) merge.kept merge.weave
    (share_clocks base layout parts drained numbers clock made woven phase merge)

-- ---- what waits

logged : (base : WorldState) (layout : Layout) (parts : ℕ → Ran) (drained : ℕ → PartState) (numbers : Numbers) → IsPhase base layout parts drained → AreHomes layout.homes parts numbers (length base.boxes)
    → IsLogged (stands_for base layout (olds parts)) (world_logs base layout parts) (stands_for base layout drained).boxes (stands_for base layout drained).lanes
logged base layout parts drained numbers phase homes =
    parts_are_logged (stands_for base layout (olds parts)) layout.homes parts (world_logs base layout parts) (stands_for base layout drained).boxes (stands_for base layout drained).lanes
    (parts_of base layout parts drained numbers phase homes)

pub phase_keeps_sound : PhaseKeepsSound
phase_keeps_sound base layout parts drained numbers phase homes sound =
    merge_keeps_sound (stands_for base layout (olds parts)) (world_logs base layout parts) (stands_for base layout drained).boxes (stands_for base layout drained).lanes (logged base layout parts drained numbers phase homes) sound

record Begins (lane : List Tagged) (tagged : Tagged) : Type 0 where
  rest : List Tagged
  is : lane ≡ tagged ∷ rest

-- what is at the front is still there once the rings are drained
front_stays : (base : WorldState) (layout : Layout) (parts : ℕ → Ran) (drained : ℕ → PartState) (lane : ℕ) (tagged : Tagged) (rest : List Tagged) → IsPhase base layout parts drained → lane < length base.lanes
    → lane_in layout (news parts) lane ≡ tagged ∷ rest → Begins (lane_in layout drained lane) tagged
front_stays base layout parts drained lane tagged rest phase inside is = elim (phase.laid.kinds lane inside) [
  | inl same ↦ record { rest = rest; is = phase.inner lane inside same ∙ is }
  | inr apart ↦
      let drain = phase.crossing lane inside apart in
      record { rest = rest ++ (without_stamps drain.left ++ before_ring layout (news parts) lane); is = drain.rest ∙ ap (λ (l : List Tagged). l ++ (without_stamps drain.left ++ before_ring layout (news parts) lane)) is }
]

pub none_strange : NoneStrange
none_strange base layout parts drained numbers lane tagged rest phase homes sound inside is =
    let begins = front_stays base layout parts drained lane tagged rest phase inside is in
    fronts_are_lawful (stands_for base layout (olds parts)) (world_logs base layout parts) (stands_for base layout drained).boxes (stands_for base layout drained).lanes (logged base layout parts drained numbers phase homes) sound
    lane tagged begins.rest (lane_is base layout drained lane inside ∙ begins.is)

-- ---- the next one

boxes_stay : (base : WorldState) (layout : Layout) (parts : ℕ → Ran) (drained : ℕ → PartState) → IsPhase base layout parts drained → (part : ℕ) → length (drained part).boxes ≡ length (parts part).old.boxes
boxes_stay base layout parts drained phase part = ap (λ (l : List BoxState). length l) (phase.boxes part) ∙ (phase.worked part).box_count

lanes_stay : (base : WorldState) (layout : Layout) (parts : ℕ → Ran) (drained : ℕ → PartState) → IsPhase base layout parts drained → (part : ℕ) → length (drained part).lanes ≡ length (parts part).old.lanes
lanes_stay base layout parts drained phase part = phase.lane_counts part ∙ (phase.worked part).lane_count

apart_then : (layout : Layout) (tables : ℕ → WorldState) (states states_2 : ℕ → PartState) (lane : ℕ) → ((part : ℕ) → length (states_2 part).boxes ≡ length (states part).boxes) → IsApart layout tables states lane → IsApart layout tables states_2 lane
apart_then layout tables states states_2 lane same apart = record {
  away = subst (λ (n : ℕ). n ≤ leads_to (tables (layout.senders lane).0) (layout.senders lane).1) (sym (same (layout.senders lane).0)) apart.away;
  off = subst (λ (n : ℕ). n ≤ leads_from (tables (layout.takers lane).0) (layout.takers lane).1) (sym (same (layout.takers lane).0)) apart.off;
}

pub phase_goes_on : PhaseGoesOn
phase_goes_on base layout parts drained phase =
    let boxes = boxes_stay base layout parts drained phase in
    let lanes = lanes_stay base layout parts drained phase in (
      record {
        each_lane = phase.laid.each_lane;
        tunnels = phase.laid.tunnels;
        none = λ who outside. subst (λ (n : ℕ). n ≤ (layout.homes who).1) (sym (boxes (layout.homes who).0)) (phase.laid.none who outside);
        sends = λ lane inside.
            let is = phase.laid.sends lane inside in
            record {
              there = subst (λ (n : ℕ). (layout.senders lane).1 < n) (sym (lanes (layout.senders lane).0)) is.there;
              here = subst (λ (n : ℕ). leads_from (parts (layout.senders lane).0).tables (layout.senders lane).1 < n) (sym (boxes (layout.senders lane).0)) is.here;
              home = is.home;
              tunnels = is.tunnels;
            };
        takes = λ lane inside.
            let is = phase.laid.takes lane inside in
            record {
              there = subst (λ (n : ℕ). (layout.takers lane).1 < n) (sym (lanes (layout.takers lane).0)) is.there;
              here = subst (λ (n : ℕ). leads_to (parts (layout.takers lane).0).tables (layout.takers lane).1 < n) (sym (boxes (layout.takers lane).0)) is.here;
              home = is.home;
              tunnels = is.tunnels;
            };
        kinds = λ lane inside. elim (phase.laid.kinds lane inside) [
          | inl same ↦ inl same
          | inr apart ↦ inr (apart_then layout (tables_of parts) (olds parts) drained lane boxes apart)
        ];
      },
      λ lane inside apart. (phase.crossing lane inside (apart_then layout (tables_of parts) drained (olds parts) lane (λ part. sym (boxes part)) apart)).empty,
    )

-- ---- commands, Shifts and retries

in_order : (base : WorldState) (layout : Layout) (parts : ℕ → Ran) (drained : ℕ → PartState) (numbers : List (List ℕ)) (clock : ℕ → ℕ) (made : List (List Made)) (woven : List (ℕ × Made)) (who : ℕ) (kind : Event → Bool)
    → IsPhase base layout parts drained → IsMerge base layout parts numbers clock made woven
    → of_kind kind who (map (turn_in numbers) woven) ≡ map (λ (entry : Entry). turn_of who entry.event) (filter (λ (entry : Entry). kind entry.event) (own_at layout parts who))
in_order base layout parts drained numbers clock made woven who kind phase merge =
    merged_in_order (stands_for base layout (olds parts)) layout.homes parts numbers clock (world_logs base layout parts) (stands_for base layout drained).boxes (stands_for base layout drained).lanes made woven who kind
    (parts_of base layout parts drained (numbers_in numbers) phase merge.homes_are) (homes_of base layout parts numbers merge.homes_are) merge.kept merge.weave
    ∙ ap (λ (l : List Entry). map (λ (entry : Entry). turn_of who entry.event) (filter (λ (entry : Entry). kind entry.event) l)) (logs_are base layout parts drained (numbers_in numbers) phase merge.homes_are who)

long_map : {X Y : Type 0} (f : X → Y) (xs : List X) → length (map f xs) ≡ length xs
long_map f [] = refl
long_map f (x ∷ xs) = ap (λ (n : ℕ). suc n) (long_map f xs)

counted : (who : ℕ) (kind : Event → Bool) (turns : List Turn) (entries : List Entry) → of_kind kind who turns ≡ map (λ (entry : Entry). turn_of who entry.event) (filter (λ (entry : Entry). kind entry.event) entries)
    → count_by (λ (turn : Turn). kind turn.event && turn.who == who) turns ≡ count_by (λ (entry : Entry). kind entry.event) entries
counted who kind turns entries are =
    sym (length-filter (λ (turn : Turn). kind turn.event && turn.who == who) turns)
    ∙ (ap (λ (l : List Turn). length l) are
    ∙ (long_map (λ (entry : Entry). turn_of who entry.event) (filter (λ (entry : Entry). kind entry.event) entries) ∙ length-filter (λ (entry : Entry). kind entry.event) entries))

events_turned : (who : ℕ) (entries : List Entry) → map (λ (entry : Entry). turn_of who entry.event) entries ≡ map (turn_of who) (map (λ (entry : Entry). entry.event) entries)
events_turned who [] = refl
events_turned who (entry ∷ entries) = ap (λ (l : List Turn). turn_of who entry.event ∷ l) (events_turned who entries)

pub phase_plays : PhasePlays
phase_plays retries base layout parts drained numbers clock made woven stimuli stimuli_2 shifts shifts_2 phase merge uses =
    record {
      runs = phase_is_run base layout parts drained numbers clock made woven phase merge;
      commands = λ who.
          let own = filter (λ (entry : Entry). is_command entry.event) (own_at layout parts who) in
          ap (λ (l : List Turn). l ++ map (turn_of who) (stimuli_2 who)) (in_order base layout parts drained numbers clock made woven who is_command phase merge ∙ events_turned who own)
          ∙ (sym (map-append (turn_of who) (map (λ (entry : Entry). entry.event) own) (stimuli_2 who)) ∙ ap (map (turn_of who)) (uses who).commands);
      shifts_are = λ who. (uses who).shifts_are
          ∙ ap (λ (n : ℕ). shifts who + n) (sym (counted who is_shift (map (turn_in numbers) woven) (own_at layout parts who) (in_order base layout parts drained numbers clock made woven who is_shift phase merge)));
      few_shifts = λ who. (uses who).few;
      retried = λ who local.
          counted who (is_retry_at local) (map (turn_in numbers) woven) (own_at layout parts who) (in_order base layout parts drained numbers clock made woven who (is_retry_at local) phase merge) ∙ (uses who).retried local;
    }

-- ---- turns of a box

any_one : (here rest : Bool) (turn : Turn) (turns : List Turn) → ((turns ≢ []) → IsTrue rest) → (if here then turn ∷ turns else turns) ≢ [] → IsTrue (here || rest)
any_one true rest turn turns more some = refl
any_one false rest turn turns more some = more some

any_turn : (who : ℕ) (turns : List Turn) → of_kind (λ (event : Event). true) who turns ≢ [] → IsTrue (list_any (λ (turn : Turn). turn.who == who) turns)
any_turn who [] some = absurd (some refl)
any_turn who (turn ∷ turns) some = any_one (turn.who == who) (list_any (λ (t : Turn). t.who == who) turns) turn (of_kind (λ (event : Event). true) who turns) (any_turn who turns) some

not_none : (who : ℕ) (entries : List Entry) → entries ≢ [] → map (λ (entry : Entry). turn_of who entry.event) (filter (λ (entry : Entry). true) entries) ≢ []
not_none who [] some is = some refl
not_none who (entry ∷ entries) some is = absurd (cc)

pub entries_are_turns : EntriesAreTurns
entries_are_turns base layout parts drained numbers clock made woven who phase merge some =
    any_turn who (map (turn_in numbers) woven) (λ is. not_none who (own_at layout parts who) some (sym (in_order base layout parts drained numbers clock made woven who (λ (event : Event). true) phase merge) ∙ is))
