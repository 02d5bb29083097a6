-- Draws end.
use Rattle.std.proofs.Common.{◌≡◌, ◌≢◌, ◌<◌, ◌≤◌, ◌+◌, inl, List, [], ◌∷◌, length, Some, ap, sym, ◌∙◌, arith}
use Rattle.mc_box.specs.declared.event.Event.TheVariants.{Take}
use Rattle.mc_box.specs.declared.event.Turn.{Turn}
use Rattle.mc_model.specs.Shapes.{is_allowed, AreAllowed}
use Rattle.mc_laws.specs.Measures.{IsRingFree, measure}
use Rattle.mc_model.specs.Sound.{IsSound}
use Rattle.mc_model.specs.Steps.{step}
use Rattle.mc_model.specs.Unprogrammed.{ShiftNone}
use Rattle.mc_laws.proofs.Lowers.{take_lowers, take_stays_free}
use Rattle.mc_laws.proofs.ShapesKept.{step_keeps_shape}
use Rattle.mc_laws.proofs.StepKeeps.{step_keeps_sound}
use Rattle.mc_seq.specs.Draws.{DrawsEnd, TakesEndDraws}
use Rattle.mc_seq.specs.Schedule.{AreDrawn, ScheduleState, left_by, schedule_after, since_by}
use Rattle.mc_seq.proofs.Candidates.{drawn_listed, take_same}
use Rattle.mc_seq.proofs.AllowedCommands.{all_kept, left_pass}
use Rattle.mc_seq.proofs.Scheduled.{drawn_none, none_parts}
use Rattle.mc_seq.proofs.SettlesSoFar.{drawn_take, empty_is, listed_lowers, other_left, turns_to_come}

-- each turn lowers what may still come while commands are left
few_draws : (turns : List Turn) (now last : ScheduleState) → IsSound now.world → AreAllowed now.world now.left → length last.left ≢ 0 → AreDrawn now turns last
    → length turns + turns_to_come last.left last.since ≤ turns_to_come now.left now.since
few_draws [] now last sound allowed some draws =
    let same : turns_to_come last.left last.since ≡ turns_to_come now.left now.since = ap (λ (s : ScheduleState). turns_to_come s.left s.since) (sym draws) in
    omega arith
few_draws (turn ∷ turns) now last sound allowed some draws =
    let here : length now.left ≢ 0 = λ none. some (ap length (drawn_none (turn ∷ turns) now last (empty_is now.left none) draws)) in
    let after = step_keeps_sound now.world draws.0 turn sound draws.3 in
    let still = all_kept (left_by turn now.left) now.world draws.0 sound after (step_keeps_shape now.world draws.0 turn sound draws.3) (left_pass (is_allowed now.world) turn now.left allowed) in
    let lower : turns_to_come (left_by turn now.left) (since_by turn now.since) < turns_to_come now.left now.since = listed_lowers now.world turn now.left now.shifts now.since allowed here (drawn_listed now turn draws.2) in
    let rest : length turns + turns_to_come last.left last.since ≤ turns_to_come (left_by turn now.left) (since_by turn now.since) = few_draws turns (schedule_after now turn draws.0) last after still some draws.4 in
    omega arith

-- at the beginning that is at most 64 for each command and 63
pub draws_end : DrawsEnd
draws_end now last turns sound allowed draws some =
    let few = few_draws turns now last sound allowed (λ none. some (empty_is last.left none)) draws in
    omega arith

-- each Take lowers the measure
few_takes : (turns : List Turn) (now last : ScheduleState) → now.left ≡ [] → IsRingFree now.world → ShiftNone turns → AreDrawn now turns last → length turns + measure last.world ≤ measure now.world
few_takes [] now last none free apart draws =
    let same : measure last.world ≡ measure now.world = ap (λ (s : ScheduleState). measure s.world) (sym draws) in
    omega arith
few_takes (turn ∷ turns) now last none free apart draws =
    let parts = none_parts turn turns apart in
    let take = drawn_take now turn none parts.0 draws.2 in
    let goes : step now.world (record { who = turn.who; event = Take take.local }) ≡ Some draws.0 = ap (step now.world) (take_same turn take.local take.event) ∙ draws.3 in
    let lower : measure draws.0 < measure now.world = take_lowers now.world draws.0 turn.who take.local free goes in
    let rest : length turns + measure last.world ≤ measure draws.0 =
    few_takes turns (schedule_after now turn draws.0) last (other_left turn now.left now.world now.shifts (inl take) ∙ none) (take_stays_free now.world draws.0 turn.who take.local free goes) parts.1 draws.4 in
    omega arith

-- so drawn Takes end
pub takes_end_draws : TakesEndDraws
takes_end_draws now last turns none free draws apart = few_takes turns now last none free apart draws
