-- What a phase has played, and what its parts keep for the next one.
use Rattle.std.proofs.Common.{◌≡◌, inl, inr, ◌==◌, ◌&&◌, ◌<◌, if◌then◌else◌, Bool, true, false, ℕ, nat_lt, IsTrue, Some, None, Option, List, [], ◌∷◌, ◌++◌, drop, length, map, get_or, slice_get, Result, Ok, Err, refl, ap, sym, ◌∙◌, subst, arith, true≢false, Vec, Global, eq-eqb}
use Rattle.std.specs.List.{AllByRecursion}
use Rattle.std.proofs.lemmas.Bool.{eqb-true, ltb-true}
use Rattle.std.proofs.lemmas.List.FromFn.{get_or-map-range_with_len, length-map-range_with_len}
use Rattle.std.proofs.lemmas.Option.{get_or_from_slice_get, slice_get_within}
use Rattle.mc_box.specs.BoxShapes.{box_shape, is_enabled_by}
use Rattle.mc_box.specs.BoxSound.{IsSoundBox}
use Rattle.mc_box.specs.Boxes.{BoxState, no_box}
use Rattle.mc_box.specs.declared.event.Event.{Event}
use Rattle.mc_box.specs.declared.event.Turn.{Turn}
use Rattle.mc_model.specs.Shapes.{is_allowed}
use Rattle.mc_model.specs.Worlds.{box_at}
use Rattle.mc_merge.specs.Account.{PartState, part_box}
use Rattle.mc_merge.specs.Logs.{own_log}
use Rattle.mc_merge.specs.Phases.{PlaysPhase, box_in}
use Rattle.mc_merge.specs.Weaving.{clock_at, clocks_of, log_at, numbers_of, turn_in}
use Rattle.mc_merge.specs.Wholes.{numbers_in}
use Rattle.mc_merge.specs.declared.log.Made.{Made}
use Rattle.mc_merge.specs.declared.log.PartLog.{PartLog}
use Rattle.mc_part.specs.Divisions.{home_at}
use Rattle.mc_part.specs.Networks.{AreLogs, shifts_in, stimuli_in, world_by}
use Rattle.mc_part.specs.Parts.{Runs, events_for, shifts_of, state_of, stimuli_of}
use Rattle.mc_part.specs.Phases.{EachOf, HasEnded, HasGone}
use Rattle.mc_part.specs.Running.{AreCalm, EndsAs, owed_of}
use Rattle.mc_part.specs.declared.part.Part.{Part}
use Rattle.mc_part.specs.declared.part_run.PartRun.{PartRun}
use Rattle.mc_part.specs.declared.stop.Ended.{Ended}
use Rattle.mc_part.specs.declared.stop.Ended.TheVariants.{Late, Rest}
use Rattle.mc_part.specs.declared.stop.PartStop.{PartStop}
use Rattle.mc_part.proofs.Calm.{calm_as}
use Rattle.mc_part.proofs.Networks.{parts_play}
use Rattle.mc_divided.specs.Networks.{IsDividedNetwork, ShareClock, base_of, network_layout, states_among, world_in}
use Rattle.mc_divided.specs.Phasing.{EndsCalm, IsChosen, IsClosed, logs_in}
use Rattle.mc_divided.specs.declared.network.Crossing.{Crossing}
use Rattle.mc_divided.specs.declared.network.DividedNetwork.{DividedNetwork}
use Rattle.mc_divided.proofs.Closed.{ClosedAt, Phased, carried_over, closed_at, homes_in, opened_at, parts_of}
use Rattle.mc_divided.proofs.Drained.{IsLike}
use Rattle.mc_divided.proofs.Lists.{one_of}
use Rattle.mc_divided.proofs.PartsBy.{by_map, by_part, empty_part, part_in, part_is, parts_by, run_there, states_are}
use Rattle.mc_divided.proofs.Phased.{HasNone, laid_of, none_of, same_logs, went_run}
use Rattle.mc_divided.proofs.Shapes.{made_same}
use Rattle.mc_divided.proofs.Ways.{IsAcross, across_of}

-- ---- what a part keeps of its commands and counts

-- of a part that ran, and the one after the phase
pub record KeepsCounts (c d : Part) : Type 0 where
  pub commands : d.commands ≡ c.commands
  pub used : d.used ≡ c.used
  pub shifts : d.shifts ≡ c.shifts

pub keeps_counts : (n : DividedNetwork) (retries every : Bool) (budget : ℕ) (chosen gone carried closed : List PartRun) (logs_2 : List PartLog) (before after : List Turn) → Phased n retries every budget chosen gone carried closed logs_2 before after → (i : ℕ) (c d : PartRun) → slice_get gone i ≡ Some c → slice_get closed i ≡ Some d → KeepsCounts c.part d.part
keeps_counts n retries every budget chosen gone carried closed logs_2 before after p i c d there there_2 =
    let mid = run_there carried i (subst (λ (k : ℕ). i < k) (sym p.over.same.count) (slice_get_within gone i c there)) in
    let shut : IsClosed mid.0 d = p.merged.closed.each i mid.0 d mid.1 there_2 in
    let moved = p.over.same.each i c mid.0 there mid.1 in
    record {
      commands = ap (λ (r : PartRun). r.part.commands) shut.kept ∙ ap (λ (q : Part). q.commands) moved.part.kept;
      used = ap (λ (r : PartRun). r.part.used) shut.kept ∙ ap (λ (q : Part). q.used) moved.part.kept;
      shifts = ap (λ (r : PartRun). r.part.shifts) shut.kept ∙ ap (λ (q : Part). q.shifts) moved.part.kept;
    }

pub same_stimuli : (c d : Part) → KeepsCounts c d → (who : ℕ) → stimuli_of d who ≡ stimuli_of c who
same_stimuli c d keeps who = ap (λ (k : ℕ). events_for who (drop k d.commands.items)) keeps.used ∙ ap (λ (v : Vec Turn Global). events_for who (drop c.used v.items)) keeps.commands

pub same_shifts : (c d : Part) → KeepsCounts c d → (who : ℕ) → shifts_of d who ≡ shifts_of c who
same_shifts c d keeps who = ap (λ (v : Vec ℕ Global). get_or v.items who 0) keeps.shifts

-- ---- which boxes can shift

calm_like : (c d : Part) → IsLike c d → KeepsCounts c d → AreCalm c → AreCalm d
calm_like c d like keeps calm who inside =
    calm_as c d who (ap (λ (l : List BoxState). get_or l who no_box) like.boxes) (same_shifts c d keeps who) (calm who (subst (λ (k : ℕ). who < k) (ap (λ (l : List BoxState). length l) like.boxes) inside))

calm_by : (calm : Bool) (o : Option (Result Ended PartStop)) (r : Result Ended PartStop) (part : Part) (budget : ℕ) → EndsCalm calm o → o ≡ Some r → EndsAs r part budget → AreCalm part
calm_by calm o (Ok Rest) part budget ends is at_end = at_end.begun.calm
calm_by calm o (Ok Late) part budget ends is at_end = at_end.begun.calm
calm_by calm o (Err stop) part budget ends is at_end = absurd (subst (λ (x : Option (Result Ended PartStop)). EndsCalm calm x) is ends)

calm_idle : (calm : Bool) (o : Option (Result Ended PartStop)) → o ≡ None → EndsCalm calm o → calm ≡ true
calm_idle calm o is ends = subst (λ (x : Option (Result Ended PartStop)). EndsCalm calm x) is ends

calm_ran : (n : DividedNetwork) (retries every : Bool) (budget : ℕ) (i : ℕ) (x b c : PartRun) → IsDividedNetwork n → slice_get n.runs.items i ≡ Some x → IsChosen every x b → HasGone retries budget b c → EndsCalm n.calm c.ended → (active : Bool) → b.active ≡ active → AreCalm c.part
calm_ran n retries every budget i x b c divided there chose went ends true is =
    let ended : HasEnded retries budget b c = went.ended is in
    calm_by n.calm c.ended ended.result c.part budget ends ended.is ended.ends
calm_ran n retries every budget i x b c divided there chose went ends false is =
    let same : c ≡ b = went.idle is in
    let none : c.ended ≡ None = ap (λ (r : PartRun). r.ended) same ∙ chose.ended in
    subst (λ (q : Part). AreCalm q) (sym (ap part_in same ∙ chose.part)) (divided.calm (calm_idle n.calm c.ended none ends) i x there)

pub calm_after : (n : DividedNetwork) (retries every : Bool) (budget : ℕ) (chosen gone carried closed : List PartRun) (logs_2 : List PartLog) (before after : List Turn) → Phased n retries every budget chosen gone carried closed logs_2 before after → EachOf (λ (run : PartRun). EndsCalm n.calm run.ended) closed → EachOf (λ (run : PartRun). AreCalm run.part) closed
calm_after n retries every budget chosen gone carried closed logs_2 before after p ends i d there =
    let opened = opened_at n retries every budget chosen gone carried closed logs_2 before after p i d there in
    let at : ClosedAt gone closed n retries every budget chosen i opened.0 = closed_at n retries every budget chosen gone carried closed logs_2 before after p i opened.0 opened.1 in
    let same : at.d ≡ d = one_of (slice_get closed i) at.d d at.d_there there in
    let mid = run_there carried i (subst (λ (k : ℕ). i < k) (sym p.over.same.count) (slice_get_within gone i at.ran.c at.ran.c_there)) in
    let ended : d.ended ≡ at.ran.c.ended = ap (λ (r : PartRun). r.ended) (p.merged.closed.each i mid.0 d mid.1 there).kept ∙ (p.over.same.each i at.ran.c mid.0 at.ran.c_there mid.1).ended in
    let calm : AreCalm at.ran.c.part =
    calm_ran n retries every budget i opened.0 at.ran.b at.ran.c p.went.divided opened.1 at.ran.chose at.ran.went (subst (λ (o : Option (Result Ended PartStop)). EndsCalm n.calm o) ended (ends i d there)) at.ran.b.active refl in
    calm_like at.ran.c.part d.part (subst (λ (r : PartRun). IsLike at.ran.c.part r.part) same at.like) (keeps_counts n retries every budget chosen gone carried closed logs_2 before after p i at.ran.c d at.ran.c_there there) calm

-- ---- which commands are allowed

-- of all commands, box by box
pub by_boxes : (P : ℕ → Event → Type 0) (turns : List Turn) → AllByRecursion (λ (turn : Turn). P turn.who turn.event) turns → (who : ℕ) → AllByRecursion (P who) (events_for who turns)
by_boxes P [] all who = tt
by_boxes P (turn ∷ turns) all who = with_first (turn.who == who) turn refl all.0 (by_boxes P turns all.1 who)
  where
    with_first : (test : Bool) (first : Turn) → (first.who == who) ≡ test → P first.who first.event → AllByRecursion (P who) (events_for who turns) → AllByRecursion (P who) ((if test then first.event ∷ [] else []) ++ events_for who turns)
    with_first true first is holds rest = (subst (λ (k : ℕ). P k first.event) (eqb-true first.who who is) holds, rest)
    with_first false first is holds rest = rest

pub to_turns : (P : ℕ → Event → Type 0) (turns : List Turn) → ((who : ℕ) → AllByRecursion (P who) (events_for who turns)) → AllByRecursion (λ (turn : Turn). P turn.who turn.event) turns
to_turns P [] all = tt
to_turns P (turn ∷ turns) all = (
  (subst (λ (b : Bool). AllByRecursion (P turn.who) ((if b then turn.event ∷ [] else []) ++ events_for turn.who turns)) (eq-eqb turn.who turn.who refl) (all turn.who)).0,
  to_turns P turns (λ who. without_first (turn.who == who) who (all who)),
)
  where
    without_first : (test : Bool) (who : ℕ) → AllByRecursion (P who) ((if test then turn.event ∷ [] else []) ++ events_for who turns) → AllByRecursion (P who) (events_for who turns)
    without_first true who holds = holds.1
    without_first false who holds = holds

all_rest : (P : Event → Type 0) (made rest : List Event) → AllByRecursion P (made ++ rest) → AllByRecursion P rest
all_rest P [] rest all = all
all_rest P (event ∷ made) rest all = all_rest P made rest all.1

rest_all : (P : Event → Type 0) (made rest rest_2 all : List Event) → rest ≡ rest_2 → made ++ rest_2 ≡ all → AllByRecursion P all → AllByRecursion P rest
rest_all P made rest rest_2 all same is holds =
    subst (λ (l : List Event). AllByRecursion P l) (sym same) (all_rest P made rest_2 (subst (λ (l : List Event). AllByRecursion P l) (sym is) holds))

-- those that are left after a run were so before it
allowed_left : (x c d : Part) (retries : ℕ → ℕ → ℕ) (P : ℕ → Event → Type 0) → Runs x c retries → KeepsCounts c d → AllByRecursion (λ (turn : Turn). P turn.who turn.event) (drop x.used x.commands.items) → AllByRecursion (λ (turn : Turn). P turn.who turn.event) (drop d.used d.commands.items)
allowed_left x c d retries P runs keeps all =
    to_turns P (drop d.used d.commands.items) (λ who.
    rest_all (P who) _ (stimuli_of d who) (stimuli_of c who) (stimuli_of x who) (same_stimuli c d keeps who) (runs.run.uses who).commands (by_boxes P (drop x.used x.commands.items) all who))

all_as : (P Q : Turn → Type 0) (turns : List Turn) → ((turn : Turn) → P turn → Q turn) → AllByRecursion P turns → AllByRecursion Q turns
all_as P Q [] f all = tt
all_as P Q (turn ∷ turns) f all = (f turn all.0, all_as P Q turns f all.1)

-- a box of a part is one of the network's
pub sound_at : (n : DividedNetwork) (none : HasNone n) → IsDividedNetwork n → (i : ℕ) (x : PartRun) → slice_get n.runs.items i ≡ Some x → (at : ℕ) → at < length x.part.engine.boxes → IsSoundBox (box_at x.part.engine at)
sound_at n none divided i x there at inside =
    let homes = homes_in n none.none divided in
    let is : parts_by none.none n.runs.items i ≡ x.part = part_is none.none n.runs.items i x there in
    let inside_2 : at < length (parts_by none.none n.runs.items i).engine.boxes = subst (λ (q : Part). at < length q.engine.boxes) (sym is) inside in
    let who : ℕ = numbers_in (numbers_of n.logs.items) i at in
    let home : home_at n.assigned.items who ≡ (i, at) = homes.there i at inside_2 in
    let below : who < length (base_of n).boxes = homes.inside i at inside_2 in
    let same : box_at (world_in n) who ≡ box_at x.part.engine at =
    get_or-map-range_with_len (box_in (network_layout n) (states_among n.runs.items)) 0 (length (base_of n).boxes) who who no_box below (omega arith)
    ∙ (ap (λ (states : ℕ → PartState). part_box (states (home_at n.assigned.items who).0) (home_at n.assigned.items who).1) (states_are none.none n.runs.items)
    ∙ (ap (λ (t : ℕ × ℕ). part_box (state_of (parts_by none.none n.runs.items t.0)) t.1) home ∙ ap (λ (q : Part). box_at q.engine at) is)) in
    let there_2 : who < length (world_in n).boxes = subst (λ (k : ℕ). who < k) (sym (length-map-range_with_len (box_in (network_layout n) (states_among n.runs.items)) 0 (length (base_of n).boxes))) below in
    subst (λ (b : BoxState). IsSoundBox b) same (divided.sound.boxes who there_2)

allowed_by : (x c d : Part) (retries : ℕ → ℕ → ℕ) → Runs x c retries → IsLike c d → ((at : ℕ) → at < length x.engine.boxes → IsSoundBox (box_at x.engine at)) → (turn : Turn) → IsTrue (is_allowed x.engine turn) → IsTrue (is_allowed d.engine turn)
allowed_by x c d retries runs like sound turn allowed = by_shape (nat_lt turn.who (length x.engine.boxes)) refl allowed
  where
    count : length d.engine.boxes ≡ length x.engine.boxes
    count = ap (λ (l : List BoxState). length l) like.boxes ∙ runs.run.spanned.work.box_count

    by_shape : (test : Bool) → nat_lt turn.who (length x.engine.boxes) ≡ test → (test && is_enabled_by (box_shape (box_at x.engine turn.who)) turn.event) ≡ true → is_allowed d.engine turn ≡ true
    by_shape false is holds = absurd (true≢false (sym holds))
    by_shape true is holds =
        let same : box_shape (box_at d.engine turn.who) ≡ box_shape (box_at x.engine turn.who) =
        ap (λ (l : List BoxState). box_shape (get_or l turn.who no_box)) like.boxes
        ∙ made_same (box_at x.engine turn.who) (box_at c.engine turn.who) (own_log turn.who runs.run.log) (sound turn.who (ltb-true turn.who (length x.engine.boxes) is)) (runs.run.spanned.work.made turn.who) in
        ap (λ (k : ℕ). nat_lt turn.who k && is_enabled_by (box_shape (box_at d.engine turn.who)) turn.event) count
        ∙ (ap (λ (b : Bool). b && is_enabled_by (box_shape (box_at d.engine turn.who)) turn.event) is
        ∙ (ap (λ shape. is_enabled_by shape turn.event) same ∙ holds))

pub allowed_after : (n : DividedNetwork) (retries every : Bool) (budget : ℕ) (chosen gone carried closed : List PartRun) (logs_2 : List PartLog) (before after : List Turn) → Phased n retries every budget chosen gone carried closed logs_2 before after → (i : ℕ) (d : PartRun) → slice_get closed i ≡ Some d → AllByRecursion (λ (turn : Turn). IsTrue (is_allowed d.part.engine turn)) (drop d.part.used d.part.commands.items)
allowed_after n retries every budget chosen gone carried closed logs_2 before after p i d there =
    let opened = opened_at n retries every budget chosen gone carried closed logs_2 before after p i d there in
    let x : PartRun = opened.0 in
    let at : ClosedAt gone closed n retries every budget chosen i x = closed_at n retries every budget chosen gone carried closed logs_2 before after p i x opened.1 in
    let same : at.d ≡ d = one_of (slice_get closed i) at.d d at.d_there there in
    let like : IsLike at.ran.c.part d.part = subst (λ (r : PartRun). IsLike at.ran.c.part r.part) same at.like in
    let keeps : KeepsCounts at.ran.c.part d.part = keeps_counts n retries every budget chosen gone carried closed logs_2 before after p i at.ran.c d at.ran.c_there there in
    all_as (λ (turn : Turn). IsTrue (is_allowed x.part.engine turn)) (λ (turn : Turn). IsTrue (is_allowed d.part.engine turn)) (drop d.part.used d.part.commands.items)
    (allowed_by x.part at.ran.c.part d.part (owed_of retries x.part) at.ran.runs like (sound_at n (none_of n p.went.divided) p.went.divided i x opened.1))
    (allowed_left x.part at.ran.c.part d.part (owed_of retries x.part) (λ (who : ℕ) (event : Event). IsTrue (is_allowed x.part.engine (record { who = who; event = event }))) at.ran.runs keeps (p.went.divided.idle i x opened.1).allowed)

-- ---- what was played

share_of : (n : DividedNetwork) (none : Part) → IsDividedNetwork n → (lane : ℕ) → lane < length (base_of n).lanes → clock_at (clocks_of n.logs.items) ((network_layout n).senders lane).0 ≡ clock_at (clocks_of n.logs.items) ((network_layout n).takers lane).0
share_of n none divided lane inside = elim ((laid_of n none divided).laid.kinds lane inside) [
  | inl same ↦ ap (λ (t : ℕ × ℕ). clock_at (clocks_of n.logs.items) t.0) same
  | inr apart ↦
      let across : IsAcross (base_of n) n.assigned.items lane = across_of (base_of n) n.assigned.items none n.runs.items lane (laid_of n none divided) (inside, apart) in
      let x : Crossing = across.crossing in
      let shares : ShareClock (clocks_of n.logs.items) x = shared across.i x (ap (λ (l : List Crossing). slice_get l across.i) divided.crossings ∙ across.there) in
      elim across.is [
        | inl is ↦
            ap (λ (k : ℕ). clock_at (clocks_of n.logs.items) ((network_layout n).senders k).0) is
            ∙ (ap (λ (t : ℕ × ℕ). clock_at (clocks_of n.logs.items) t.0) across.route.there_from
            ∙ (shares ∙ (ap (λ (t : ℕ × ℕ). clock_at (clocks_of n.logs.items) t.0) (sym across.route.there_to) ∙ ap (λ (k : ℕ). clock_at (clocks_of n.logs.items) ((network_layout n).takers k).0) (sym is))))
        | inr is ↦
            ap (λ (k : ℕ). clock_at (clocks_of n.logs.items) ((network_layout n).senders k).0) is
            ∙ (ap (λ (t : ℕ × ℕ). clock_at (clocks_of n.logs.items) t.0) across.route.back_from
            ∙ (sym shares ∙ (ap (λ (t : ℕ × ℕ). clock_at (clocks_of n.logs.items) t.0) (sym across.route.back_to) ∙ ap (λ (k : ℕ). clock_at (clocks_of n.logs.items) ((network_layout n).takers k).0) (sym is))))
      ]
]
  where
    shared : (i : ℕ) (x : Crossing) → slice_get n.crossings.items i ≡ Some x → ShareClock (clocks_of n.logs.items) x
    shared i x there = subst (λ (y : Crossing). ShareClock (clocks_of n.logs.items) y) (get_or_from_slice_get n.crossings.items i x x there) (divided.clocks i x (slice_get_within n.crossings.items i x there))

pub logs_are : (n : DividedNetwork) (retries every : Bool) (budget : ℕ) (chosen gone carried closed : List PartRun) (logs_2 : List PartLog) (before after : List Turn) (none : HasNone n) → (p : Phased n retries every budget chosen gone carried closed logs_2 before after) → AreLogs (base_of n) (network_layout n) (parts_by none.none n.runs.items) (parts_by none.none gone) (numbers_of n.logs.items) (clock_at (clocks_of n.logs.items)) (logs_in carried) p.merged.woven
logs_are n retries every budget chosen gone carried closed logs_2 before after none p = record {
  homes = homes_in n none.none p.went.divided;
  none = by_part (λ (q : Part). q.log.items ≡ []) none.none n.runs.items (λ i run there. (p.went.divided.idle i run there).log) refl;
  logs = λ part. ap (λ (l : List (List Made)). log_at l part) (same_logs gone carried p.over.same) ∙ by_map part_in (λ (q : Part). q.log.items) gone part (empty_part none.none);
  weave = p.merged.are;
  share = share_of n none.none p.went.divided;
}

pub plays : (n : DividedNetwork) (retries every : Bool) (budget : ℕ) (chosen gone carried closed : List PartRun) (logs_2 : List PartLog) (before after : List Turn) (none : HasNone n) → (p : Phased n retries every budget chosen gone carried closed logs_2 before after)
    → PlaysPhase retries (world_by (base_of n) (network_layout n) (parts_by none.none n.runs.items)) (world_by (base_of n) (network_layout n) (parts_by none.none closed)) (map (turn_in (numbers_of n.logs.items)) p.merged.woven)
    (stimuli_in (network_layout n) (parts_by none.none n.runs.items)) (stimuli_in (network_layout n) (parts_by none.none gone)) (shifts_in (network_layout n) (parts_by none.none n.runs.items)) (shifts_in (network_layout n) (parts_by none.none gone))
plays n retries every budget chosen gone carried closed logs_2 before after none p =
    parts_play retries (base_of n) (network_layout n) (parts_by none.none n.runs.items) (parts_by none.none gone) (parts_by none.none closed) (numbers_of n.logs.items) (clock_at (clocks_of n.logs.items)) (logs_in carried) p.merged.woven
    (parts_of n none.none p.went.divided) (went_run n retries every budget chosen gone none p.went) (carried_over n retries every budget chosen gone carried closed logs_2 before after none p) (logs_are n retries every budget chosen gone carried closed logs_2 before after none p)
