-- The turns of a phase, with what is left, are an order of the batch that was asked for.
use Rattle.std.proofs.Common.{◌≡◌, ◌≢◌, ◌⊎◌, inl, inr, ◌+◌, ◌<◌, ◌≤◌, ◌==◌, ◌&&◌, cond, if◌then◌else◌, nat_lt, ℕ, zero, suc, Bool, true, false, List, [], ◌∷◌, ◌++◌, length, map, get_or, Option, None, Some, Result, Ok, Err, IfOk, IfErr, refl, sym, ap, ◌∙◌, subst, arith}
use Rattle.std.specs.List.{AllByRecursion, list_all}
use Rattle.std.specs.declared.alloc.AllocError.{AllocError}
use Rattle.std.proofs.lemmas.Bool.{and_parts, cases_lt, ltb-true, ne_eqb}
use Rattle.mc_box.proofs.Options.{then_some}
use Rattle.mc_box.specs.BoxEvents.{is_command}
use Rattle.mc_box.specs.BoxShapes.{box_shape, is_enabled_by}
use Rattle.mc_box.specs.declared.event.Turn.{Turn}
use Rattle.mc_desk.specs.declared.limit.TheConstants.{REQUEST_LIMIT}
use Rattle.mc_desk.specs.declared.request.Request.{Request}
use Rattle.mc_laws.proofs.ShapesKept.{run_keeps_shape, step_keeps_shape}
use Rattle.mc_laws.proofs.StepKeeps.{step_keeps_sound}
use Rattle.mc_live_settle.proofs.BehindLeft.{settled_behind_left}
use Rattle.mc_live_settle.proofs.Dealt.{are_hands}
use Rattle.mc_live_settle.proofs.Interleaved.{interleaved, interleaved_none}
use Rattle.mc_live_settle.specs.Answers.{AnswersBehind, HaveAskedAll, StopsBehind}
use Rattle.mc_live_settle.specs.Orders.{AreInterleaved, hands_for, hands_of}
use Rattle.mc_live_settle.specs.Settles.{LeadsTo, LiveStops, SettlesLive, StopsLive, StopsSo}
use Rattle.mc_model.specs.Settles.{IsSettled, commands_of}
use Rattle.mc_model.specs.Shapes.{AreAllowed, is_allowed}
use Rattle.mc_model.specs.Sound.{IsSound}
use Rattle.mc_model.specs.Steps.{run, step, step_by}
use Rattle.mc_model.specs.Worlds.{WorldState, box_at, place, places, places_among}
use Rattle.mc_phase.specs.Asked.{AreHandsFor, AreTakenFrom, MeetsRequests, request_lists, taken_at}
use Rattle.mc_phase.specs.declared.phase.Phase.{Phase}
use Rattle.mc_rounds.proofs.Plays.{commands_both}
use Rattle.mc_rounds.specs.Stops.{Stops}
use Rattle.mc_seq.specs.Places.{IsPlaced}
use Rattle.mc_seq.specs.declared.fault.SettleFault.{SettleFault}
use Rattle.mc_seq.specs.declared.fault.SettleFault.TheVariants.{NoMemory, Restless, Ring, VersionEnd}
use Rattle.mc_seq.specs.declared.fault.Stopped.{Stopped}
use Rattle.mc_seq.specs.declared.stopping.SettleStop.{SettleStop}
use Rattle.mc_seq.specs.declared.stopping.SettleStop.TheVariants as stops
use Rattle.mc_world.specs.declared.settled.Settled.{Settled}

-- ---- boxes that aren't there

-- the turns are of boxes below a number
abbrev AreBelow : ℕ → List Turn → Type 0
AreBelow count turns = AllByRecursion (λ (turn : Turn). turn.who < count) turns

step_inside : (below : Bool) (made : Option WorldState) (next : WorldState) → (if below then made else None) ≡ Some next → below ≡ true
step_inside true made next goes = refl
step_inside false made next goes = absurd (cc)

run_inside : (turns : List Turn) (world last : WorldState) (count : ℕ) → length world.boxes ≡ count → IsSound world → run world turns ≡ Some last → AreBelow count turns
run_inside [] world last count boxes sound goes = tt
run_inside (turn ∷ turns) world last count boxes sound goes =
    let one = then_some (λ (w : WorldState). run w turns) (step world turn) last goes in
    let shape = step_keeps_shape world one.0 turn sound one.1 in (
      subst (λ (n : ℕ). turn.who < n) boxes (ltb-true turn.who (length world.boxes) (step_inside (nat_lt turn.who (length world.boxes)) (step_by world turn.who turn.event) one.0 one.1)),
      run_inside turns one.0 last count (shape.boxes ∙ boxes) (step_keeps_sound world one.0 turn sound one.1) one.2,
    )

allowed_inside : (turns : List Turn) (world : WorldState) → AreAllowed world turns → AreBelow (length world.boxes) turns
allowed_inside [] world allowed = tt
allowed_inside (turn ∷ turns) world allowed =
    let parts = and_parts (is_allowed world turn) (list_all (is_allowed world) turns) allowed in
    let own = and_parts (nat_lt turn.who (length world.boxes)) (is_enabled_by (box_shape (box_at world turn.who)) turn.event) parts.0 in
    (ltb-true turn.who (length world.boxes) own.0, allowed_inside turns world parts.1)

other_if : (command here : Bool) (turn : Turn) (turns : List Turn) → here ≡ false → cond (command && here) (turn ∷ turns) turns ≡ turns
other_if true true turn turns off = absurd (cc)
other_if true false turn turns off = refl
other_if false here turn turns off = refl

-- a later box has no commands among them
none_past : (count who : ℕ) (turns : List Turn) → count ≤ who → AreBelow count turns → commands_of who turns ≡ []
none_past count who [] past below = refl
none_past count who (turn ∷ turns) past below =
    let first = below.0 in
    other_if (is_command turn.event) (turn.who == who) turn (commands_of who turns) (ne_eqb turn.who who (λ same. omega (arith, first, past, same)))
    ∙ none_past count who turns past below.1

-- ---- the order

all_allowed : (world : WorldState) (hands : List (List Turn)) → AreHandsFor world hands → AllByRecursion (AreAllowed world) hands
all_allowed world [] are = tt
all_allowed world (hand ∷ hands) are = (are.0.allowed, all_allowed world hands are.1)

-- the hands have none for a box that isn't there
hands_past : (world : WorldState) (who operators : ℕ) (hands : List (List Turn)) → length world.boxes ≤ who → AllByRecursion (AreAllowed world) hands → (k : ℕ) → k < length (map (commands_of who) hands) → get_or (map (commands_of who) hands) k [] ≡ []
hands_past world who operators [] past allowed k low = absurd (omega (arith, low))
hands_past world who operators (hand ∷ hands) past allowed zero low = none_past (length world.boxes) who hand past (allowed_inside hand world allowed.0)
hands_past world who operators (hand ∷ hands) past allowed (suc k) low = hands_past world who operators hands past allowed.1 k (omega (arith, low))

order_for : (operators who : ℕ) (batch turns left : List Turn) (world last : WorldState) (taken : List (List Request)) → IsSound world → run world turns ≡ Some last → AreHandsFor world (hands_of operators batch) → AreAllowed last left
    → AreTakenFrom (hands_of operators batch) (length world.boxes) taken → MeetsRequests taken turns left → (who < length world.boxes) ⊎ (length world.boxes ≤ who) → AreInterleaved (hands_for who operators batch) (commands_of who (turns ++ left))
order_for operators who batch turns left world last taken sound goes hands allowed from meets (inl within) =
    let count = from.count in
    subst (AreInterleaved (hands_for who operators batch)) (sym (commands_both who turns left ∙ meets who (omega (arith, within, count))))
    (interleaved world who (hands_of operators batch) (taken_at taken who) (all_allowed world (hands_of operators batch) hands) (from.known who) (λ operator low. from.asked who operator within low))
order_for operators who batch turns left world last taken sound goes hands allowed from meets (inr past) =
    let shape = run_keeps_shape world last turns sound goes in
    let boxes = shape.boxes in
    let none : commands_of who (turns ++ left) ≡ [] =
    commands_both who turns left
    ∙ (ap (λ (l : List Turn). l ++ commands_of who left) (none_past (length world.boxes) who turns past (run_inside turns world last (length world.boxes) refl sound goes))
    ∙ none_past (length last.boxes) who left (omega (arith, past, boxes)) (allowed_inside left last allowed)) in
    subst (AreInterleaved (hands_for who operators batch)) (sym none)
    (interleaved_none (hands_for who operators batch) (hands_past world who operators (hands_of operators batch) past (all_allowed world (hands_of operators batch) hands)))

pub asked_all : (operators : ℕ) (batch turns left : List Turn) (world last : WorldState) (hands : List (List Turn)) (taken : List (List Request)) → IsSound world → hands ≡ hands_of operators batch → AreAllowed world batch → length batch < REQUEST_LIMIT
    → run world turns ≡ Some last → AreTakenFrom hands (length world.boxes) taken → MeetsRequests taken turns left → AreAllowed last left → HaveAskedAll operators world batch turns left last
asked_all operators batch turns left world last hands taken sound are allowed few goes from meets still =
    let shape = run_keeps_shape world last turns sound goes in
    record {
      is_order = record {
        each = λ who. order_for operators who batch turns left world last taken sound goes (are_hands world operators batch allowed few) still (subst (λ (l : List (List Turn)). AreTakenFrom l (length world.boxes) taken) are from) meets (cases_lt who (length world.boxes));
      };
      runs = goes;
      allowed = still;
      boxes = shape.boxes;
      same_places = ap places_among shape.channels;
    }

-- where the phase had memory
pub phase_asks : (operators : ℕ) (batch : List Turn) (world : WorldState) (hands : List (List Turn)) (answer : Result Phase AllocError) → IsSound world → hands ≡ hands_of operators batch → AreAllowed world batch → length batch < REQUEST_LIMIT
    → IfOk answer (λ phase. run world phase.turns.items ≡ Some phase.world) → IfOk answer (λ phase. AreTakenFrom hands (length world.boxes) (request_lists phase.taken.items))
    → IfOk answer (λ phase. MeetsRequests (request_lists phase.taken.items) phase.turns.items phase.left.turns.items) → IfOk answer (λ phase. AreAllowed phase.world phase.left.turns.items)
    → IfOk answer (λ phase. HaveAskedAll operators world batch phase.turns.items phase.left.turns.items phase.world)
phase_asks operators batch world hands (Ok phase) sound are allowed few goes from meets still =
    asked_all operators batch phase.turns.items phase.left.turns.items world phase.world hands (request_lists phase.taken.items) sound are allowed few goes from meets still
phase_asks operators batch world hands (Err e) sound are allowed few goes from meets still = tt

-- ---- answers

leads : (operators : ℕ) (world : WorldState) (batch turns left : List Turn) (next : WorldState) → HaveAskedAll operators world batch turns left next → LeadsTo world (turns ++ left) turns left next
leads operators world batch turns left next asked = record { runs = asked.runs; commands = λ who. sym (commands_both who turns left) }

pub settles : (operators : ℕ) (world : WorldState) (batch turns left : List Turn) (next : WorldState) (old new : Result Settled SettleFault) → HaveAskedAll operators world batch turns left next
    → IfOk old (λ done. IsSettled next left done.turns.items done.world) → AnswersBehind turns old new → IfOk new (λ done. SettlesLive operators world batch done.turns.items done.world)
settles operators world batch turns left next old (Err (NoMemory e)) asked settled is = tt
settles operators world batch turns left next (Ok old) (Ok new) asked settled is = record {
  order = turns ++ left;
  is_order = asked.is_order;
  settled =
      subst (λ (w : WorldState). IsSettled world (turns ++ left) new.turns.items w) (sym is.world)
      (subst (λ (t : List Turn). IsSettled world (turns ++ left) t old.world) (sym is.turns)
      (settled_behind_left world next old.world (turns ++ left) turns left old.turns.items (leads operators world batch turns left next asked) settled));
}
settles operators world batch turns left next (Err (VersionEnd old)) (Err (VersionEnd new)) asked settled is = tt
settles operators world batch turns left next (Err (Ring old)) (Err (Ring new)) asked settled is = tt
settles operators world batch turns left next (Err (Restless old)) (Err (Restless new)) asked settled is = tt
settles operators world batch turns left next old new asked settled is = absurd is

-- a slot has the place that it had in the first world
placed : (world next : WorldState) (turns : List Turn) (old new : Stopped) → places next ≡ places world → StopsBehind turns old new → IsPlaced next old → IsPlaced world new
placed world next turns old new same is at = is.place ∙ (at ∙ (ap (λ (l : List (ℕ × ℕ)). get_or l old.at (0, 0)) same ∙ ap (place world) (sym is.at)))

stops_by : (operators : ℕ) (world : WorldState) (batch turns left after all : List Turn) (next : WorldState) (old new : SettleStop) → HaveAskedAll operators world batch turns left next → all ≡ turns ++ after → new ≡ old → StopsSo old next left after
    → StopsLive operators world batch new all
stops_by operators world batch turns left after all next old new asked parts same stopped = record {
  order = turns ++ left;
  is_order = asked.is_order;
  before = turns;
  left = left;
  middle = next;
  after = after;
  turns_are = parts;
  leads = leads operators world batch turns left next asked;
  stopped = subst (λ (stop : SettleStop). StopsSo stop next left after) (sym same) stopped;
}

pub stops_live : (operators : ℕ) (world : WorldState) (batch turns left : List Turn) (next : WorldState) (old new : Result Settled SettleFault) → HaveAskedAll operators world batch turns left next
    → IfErr old (Stops next left) → AnswersBehind turns old new → IfErr new (LiveStops operators world batch)
stops_live operators world batch turns left next old (Err (NoMemory e)) asked stopped is = tt
stops_live operators world batch turns left next (Ok old) (Ok new) asked stopped is = tt
stops_live operators world batch turns left next (Err (VersionEnd old)) (Err (VersionEnd new)) asked stopped is = (
  stops_by operators world batch turns left old.turns.items new.turns.items next (stops.VersionEnd old.at) (stops.VersionEnd new.at) asked is.turns (ap stops.VersionEnd is.at) stopped.0,
  placed world next turns old new asked.same_places is stopped.1,
)
stops_live operators world batch turns left next (Err (Ring old)) (Err (Ring new)) asked stopped is = (
  stops_by operators world batch turns left old.turns.items new.turns.items next (stops.Ring old.at) (stops.Ring new.at) asked is.turns (ap stops.Ring is.at) stopped.0,
  placed world next turns old new asked.same_places is stopped.1,
)
stops_live operators world batch turns left next (Err (Restless old)) (Err (Restless new)) asked stopped is =
    stops_by operators world batch turns left old.turns.items new.turns.items next (stops.Restless old.at) (stops.Restless new.at) asked is.turns (ap stops.Restless is.at) stopped
stops_live operators world batch turns left next old new asked stopped is = absurd is
