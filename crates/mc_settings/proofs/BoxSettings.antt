-- What an event of a box does to its settings.
use Rattle.std.proofs.Common.{◌≡◌, ◌==◌, false, List, [], ◌∷◌, Option, Some, None, ap, sym, ◌∙◌, subst, ℕ, max, min}
use Rattle.std.specs.Option.{option_map}
use Rattle.mc_link.specs.LinkTurn.{closed_side}
use Rattle.mc_signal.specs.declared.Signal.{Signal}
use Rattle.mc_slot.specs.EndTurn.{cause_of}
use Rattle.mc_slot.specs.Moves.{Took, slot_take}
use Rattle.mc_slot.specs.declared.Cause.{Cause}
use Rattle.mc_slot.specs.declared.Cause.TheVariants.{Other, Push}
use Rattle.mc_slot.specs.declared.SlotGoal.{SlotGoal}
use Rattle.mc_slot.specs.declared.SlotGoal.TheVariants.{End, Link}
use Rattle.mc_box.specs.BoxEvents.{BoxStep, box_event, event_step, goal_step, goal_step_by, goal_steps, is_shift, sends_first, side_of, take_step, with_answer, with_hearing, with_talking}
use Rattle.mc_box.specs.Boxes.{BoxState, goal_at, media_at, slot_at, with_goals, with_media, with_slot}
use Rattle.mc_box.specs.Goals.{changed_slots, change_goals}
use Rattle.mc_box.specs.declared.event.Event.{Event}
use Rattle.mc_box.specs.declared.event.Event.TheVariants.{Take, Set, Media, Tell, Retry, Shift}
use Rattle.mc_box.specs.declared.event.MediaChange.TheVariants.{Hear, Talk}
use Rattle.mc_box.specs.declared.limit.TheConstants.{LAST_VERSION}
use Rattle.mc_box.proofs.Events.{event_goes, taking_is}
use Rattle.mc_box.proofs.GoalTurns.{end_form, pair_form}
use Rattle.mc_box.proofs.Options.{else_some, map_some, then_some}
use Rattle.mc_settings.specs.Settings.{set_by, settings_of}

-- ---- turns leave them

turn_by : (goal : SlotGoal) (box : BoxState) (local : ℕ) (cause : Cause) (step : BoxStep) → goal_step_by goal box local cause ≡ Some step → settings_of step.after ≡ settings_of box
turn_by (End goal) box local cause step goes = ap (λ (s : BoxStep). settings_of s.after) (sym (end_form box local goal cause step goes).is)
turn_by (Link partner) box local cause step goes =
    ap (λ (s : BoxStep). settings_of s.after) (sym (pair_form box (min local partner) (max local partner) (closed_side cause (side_of local partner)) step goes).is)

turn_leaves : (box : BoxState) (local : ℕ) (cause : Cause) (step : BoxStep) → goal_step box local cause ≡ Some step → settings_of step.after ≡ settings_of box
turn_leaves box local cause step goes = turn_by (goal_at box local) box local cause step goes

turns_leave : (locals : List ℕ) (box : BoxState) (step : BoxStep) → goal_steps box locals ≡ Some step → settings_of step.after ≡ settings_of box
turns_leave [] box step goes = let same : record { sent = []; after = box } ≡ step = cc in ap (λ (s : BoxStep). settings_of s.after) (sym same)
turns_leave (local ∷ locals) box step goes =
    let one = then_some (λ (turn : BoxStep). option_map (sends_first turn.sent) (goal_steps turn.after locals)) (goal_step box local Push) step goes in
    let two = map_some (sends_first one.0.sent) (goal_steps one.0.after locals) step one.2 in
    ap (λ (s : BoxStep). settings_of s.after) (sym two.2) ∙ (turns_leave locals one.0.after two.0 two.1 ∙ turn_leaves box local Push one.0 one.1)

take_leaves : (box : BoxState) (local : ℕ) (signal : Signal) (step : BoxStep) → take_step box local signal ≡ Some step → settings_of step.after ≡ settings_of box
take_leaves box local signal step goes =
    let one = then_some (λ (took : Took). option_map (with_answer local took.answer)
    (goal_step (with_slot box local took.after) local (cause_of signal took.after.state))) (slot_take (slot_at box local) signal) step goes in
    let two = map_some (with_answer local one.0.answer) (goal_step (with_slot box local one.0.after) local (cause_of signal one.0.after.state)) step one.2 in
    ap (λ (s : BoxStep). settings_of s.after) (sym two.2) ∙ turn_leaves (with_slot box local one.0.after) local (cause_of signal one.0.after.state) two.0 two.1

-- ---- events

acts : (event : Event) (box : BoxState) (step : BoxStep) → is_shift event ≡ false → event_step box event ≡ Some step → settings_of step.after ≡ set_by event (settings_of box)
acts (Take local) box step unshifted goes = absurd cc
acts (Set change) box step unshifted goes = turns_leave (changed_slots box.goals (change_goals box.goals change)) (with_goals box (change_goals box.goals change)) step goes
acts (Media (Hear local on)) box step unshifted goes =
    let turns = else_some ((media_at box local).version == LAST_VERSION) (goal_step (with_media box local (with_hearing on (media_at box local))) local Other) step goes in
    turn_leaves (with_media box local (with_hearing on (media_at box local))) local Other step turns.1
acts (Media (Talk local on)) box step unshifted goes = turn_leaves (with_media box local (with_talking on (media_at box local))) local Other step goes
acts (Tell word) box step unshifted goes =
    let same : record { sent = []; after = record box { told = Some word } } ≡ step = cc in ap (λ (s : BoxStep). settings_of s.after) (sym same)
acts (Retry local) box step unshifted goes = turn_leaves box local Push step goes
acts Shift box step unshifted goes = absurd cc

-- after an event that isn't a Shift a box has the settings that the event makes of those before
pub event_sets : (box : BoxState) (event : Event) (signal : Option Signal) (step : BoxStep) → is_shift event ≡ false → box_event box event signal ≡ Some step → settings_of step.after ≡ set_by event (settings_of box)
event_sets box event None step unshifted goes = acts event box step unshifted (event_goes event box step goes).1
event_sets box event (Some signal) step unshifted goes =
    let one = taking_is event box signal step goes in
    subst (λ (e : Event). settings_of step.after ≡ set_by e (settings_of box)) (sym one.1) (take_leaves box one.0 signal step one.3)
