-- What the events of a box leave as it was: turns of goals touch slots alone, so goals change by Sets and Shifts, and where the program is by Tells and Shifts.
use Rattle.std.proofs.Common.{◌≡◌, ◌==◌, ℕ, List, [], ◌∷◌, max, min, Some, refl, ap, ◌∙◌, subst}
use Rattle.std.specs.Option.{option_map}
use Rattle.mc_signal.specs.declared.Signal.{Signal}
use Rattle.mc_slot.specs.EndTurn.{cause_of}
use Rattle.mc_slot.specs.Moves.{slot_take, Took}
use Rattle.mc_slot.specs.declared.Cause.{Cause}
use Rattle.mc_slot.specs.declared.Cause.TheVariants.{Other, Push}
use Rattle.mc_slot.specs.declared.SlotGoal.{SlotGoal}
use Rattle.mc_slot.specs.declared.SlotGoal.TheVariants.{End, Link}
use Rattle.mc_rule.specs.declared.Shifted.{Shifted}
use Rattle.mc_box.specs.BoxEvents.{BoxStep, enabled_shift, event_step, goal_step, goal_step_by, goal_steps, goals_step, sends_first, shift_by, shift_goals, shift_step, side_of, take_step, with_answer, with_hearing, with_shift, with_talking}
use Rattle.mc_box.specs.Boxes.{BoxState, media_at, slot_at, with_goals, with_media, with_slot}
use Rattle.mc_box.specs.Goals.{change_goals, changed_slots}
use Rattle.mc_box.specs.declared.event.Change.{Change}
use Rattle.mc_box.specs.declared.event.Event.TheVariants.{Set, Media, Tell}
use Rattle.mc_box.specs.declared.event.MediaChange.{MediaChange}
use Rattle.mc_box.specs.declared.event.MediaChange.TheVariants.{Hear, Talk}
use Rattle.mc_box.specs.declared.limit.TheConstants.{LAST_VERSION}
use Rattle.mc_box.proofs.GoalTurns.{end_form, pair_form}
use Rattle.mc_box.proofs.Options.{else_some, map_some, then_some}
use Rattle.mc_link.specs.LinkTurn.{closed_side}

-- the same goals, and the program where it was
pub record Stays (new old : BoxState) : Type 0 where
  pub goals : new.goals ≡ old.goals
  pub program : new.program ≡ old.program
  pub at : new.at ≡ old.at
  pub told : new.told ≡ old.told

-- ---- turns of goals

slots_alone : (box : BoxState) (step : BoxStep) (after : BoxState) → after ≡ step.after → Stays after box → Stays step.after box
slots_alone box step after is stays = subst (λ (b : BoxState). Stays b box) is stays

turn_by : (goal : SlotGoal) (box : BoxState) (local : ℕ) (cause : Cause) (step : BoxStep) → goal_step_by goal box local cause ≡ Some step → Stays step.after box
turn_by (End goal) box local cause step goes =
    let form = end_form box local goal cause step goes in
    slots_alone box step (with_slot box local form.last) (ap (λ (s : BoxStep). s.after) form.is) (record { goals = refl; program = refl; at = refl; told = refl })
turn_by (Link partner) box local cause step goes =
    let form = pair_form box (min local partner) (max local partner) (closed_side cause (side_of local partner)) step goes in
    slots_alone box step (with_slot (with_slot box (min local partner) form.first) (max local partner) form.second) (ap (λ (s : BoxStep). s.after) form.is)
    (record { goals = refl; program = refl; at = refl; told = refl })

pub turn_stays : (box : BoxState) (local : ℕ) (cause : Cause) (step : BoxStep) → goal_step box local cause ≡ Some step → Stays step.after box
turn_stays box local cause step goes = turn_by _ box local cause step goes

both_stay : (last next first : BoxState) → Stays last next → Stays next first → Stays last first
both_stay last next first two one = record {
  goals = two.goals ∙ one.goals;
  program = two.program ∙ one.program;
  at = two.at ∙ one.at;
  told = two.told ∙ one.told;
}

turns_stay : (locals : List ℕ) (box : BoxState) (step : BoxStep) → goal_steps box locals ≡ Some step → Stays step.after box
turns_stay [] box step goes =
    let same : record { sent = []; after = box } ≡ step = cc in
    slots_alone box step box (ap (λ (s : BoxStep). s.after) same) (record { goals = refl; program = refl; at = refl; told = refl })
turns_stay (local ∷ locals) box step goes =
    let one = then_some (λ (turn : BoxStep). option_map (sends_first turn.sent) (goal_steps turn.after locals)) (goal_step box local Push) step goes in
    let two = map_some (sends_first one.0.sent) (goal_steps one.0.after locals) step one.2 in
    slots_alone box step two.0.after (ap (λ (s : BoxStep). s.after) two.2)
    (both_stay two.0.after one.0.after box (turns_stay locals one.0.after two.0 two.1) (turn_stays box local Push one.0 one.1))

-- goals that change become what they are to be
goals_become : (box : BoxState) (news : List SlotGoal) (step : BoxStep) → goals_step box news ≡ Some step → Stays step.after (with_goals box news)
goals_become box news step goes = turns_stay (changed_slots box.goals news) (with_goals box news) step goes

-- ---- events

pub take_stays : (box : BoxState) (local : ℕ) (signal : Signal) (step : BoxStep) → take_step box local signal ≡ Some step → Stays step.after box
take_stays box local signal step goes =
    let one = then_some (λ (took : Took). option_map (with_answer local took.answer)
    (goal_step (with_slot box local took.after) local (cause_of signal took.after.state))) (slot_take (slot_at box local) signal) step goes in
    let two = map_some (with_answer local one.0.answer) (goal_step (with_slot box local one.0.after) local (cause_of signal one.0.after.state)) step one.2 in
    let turn = turn_stays (with_slot box local one.0.after) local (cause_of signal one.0.after.state) two.0 two.1 in
    slots_alone box step two.0.after (ap (λ (s : BoxStep). s.after) two.2)
    (record { goals = turn.goals; program = turn.program; at = turn.at; told = turn.told })

pub media_stays : (change : MediaChange) (box : BoxState) (step : BoxStep) → event_step box (Media change) ≡ Some step → Stays step.after box
media_stays (Hear local on) box step goes =
    let turns = else_some ((media_at box local).version == LAST_VERSION) (goal_step (with_media box local (with_hearing on (media_at box local))) local Other) step goes in
    let turn = turn_stays (with_media box local (with_hearing on (media_at box local))) local Other step turns.1 in
    record { goals = turn.goals; program = turn.program; at = turn.at; told = turn.told }
media_stays (Talk local on) box step goes =
    let turn = turn_stays (with_media box local (with_talking on (media_at box local))) local Other step goes in
    record { goals = turn.goals; program = turn.program; at = turn.at; told = turn.told }

-- a Set leaves the program where it was
pub set_stays : (box : BoxState) (change : Change) (step : BoxStep) → event_step box (Set change) ≡ Some step → Stays step.after (with_goals box (change_goals box.goals change))
set_stays box change step goes = goals_become box (change_goals box.goals change) step goes

-- a Tell leaves all but the kept word
pub tell_stays : (box : BoxState) (word : ℕ) (step : BoxStep) → event_step box (Tell word) ≡ Some step → Stays step.after (record box { told = Some word })
tell_stays box word step goes =
    let same : record { sent = []; after = record box { told = Some word } } ≡ step = cc in
    slots_alone (record box { told = Some word }) step (record box { told = Some word }) (ap (λ (s : BoxStep). s.after) same)
    (record { goals = refl; program = refl; at = refl; told = refl })

-- a Shift leads to the state of the enabled transition, and to its goals
pub record ShiftMade (box : BoxState) (step : BoxStep) : Type 0 where
  pub shift : Shifted
  pub goes : enabled_shift box ≡ Some shift
  pub stays : Stays step.after (with_goals (with_shift box shift) (shift_goals box shift))

pub shift_made : (box : BoxState) (step : BoxStep) → shift_step box ≡ Some step → ShiftMade box step
shift_made box step goes =
    let one = then_some (shift_by box) (enabled_shift box) step goes in
    record { shift = one.0; goes = one.1; stays = goals_become (with_shift box one.0) (shift_goals box one.0) step one.2 }
