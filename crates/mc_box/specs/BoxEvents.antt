-- One event of one box: what it sends, and what it is after that. An event that has no case can't happen.
use Rattle.std.specs.Prelude.{◌≡◌, ℕ, ◌+◌, ◌==◌, ◌&&◌, Bool, true, false, if◌then◌else◌, not, List, [], ◌∷◌, ◌++◌, length, map, max, min, nat_lt, is_some, Option, Some, None}
use Rattle.std.specs.Option.{option_map, option_and_then}
use Rattle.mc_link.specs.LinkTurn.{link_turn, with_number, sent_by_first, sent_by_second, closed_side}
use Rattle.mc_link.specs.declared.Side.{Side}
use Rattle.mc_link.specs.declared.Side.TheVariants.{First, Second}
use Rattle.mc_rule.specs.Programs.{enabled}
use Rattle.mc_rule.specs.declared.Shifted.{Shifted}
use Rattle.mc_signal.specs.declared.Signal.{Signal}
use Rattle.mc_slot.specs.EndTurn.{end_turn, cause_of, is_push}
use Rattle.mc_slot.specs.Moves.{slot_take, slot_send_all, answer_signals, is_same_medium}
use Rattle.mc_slot.specs.Sending.{pair_of, sends_of}
use Rattle.mc_slot.specs.declared.Cause.{Cause}
use Rattle.mc_slot.specs.declared.Cause.TheVariants.{Other, Push}
use Rattle.mc_slot.specs.declared.Goal.{Goal}
use Rattle.mc_slot.specs.declared.SlotGoal.{SlotGoal}
use Rattle.mc_slot.specs.declared.SlotGoal.TheVariants.{End, Link}
use Rattle.mc_slot.specs.declared.sends.Sends.{Sends}
use Rattle.mc_box.specs.BoxShapes.{is_device, is_feature}
use Rattle.mc_box.specs.Boxes.{BoxState, is_slot, slot_at, goal_at, goals_in, media_at, states_of, with_goals, with_media, with_slot, own, sender, box_owes}
use Rattle.mc_box.specs.Goals.{changed_slots, change_goals}
use Rattle.mc_box.specs.declared.event.Change.{Change}
use Rattle.mc_box.specs.declared.event.Change.TheVariants.{End as NewEnd, Link as NewLink}
use Rattle.mc_box.specs.declared.event.Event.{Event}
use Rattle.mc_box.specs.declared.event.Event.TheVariants.{Take, Set, Media, Tell, Retry, Shift}
use Rattle.mc_box.specs.declared.event.MediaChange.{MediaChange}
use Rattle.mc_box.specs.declared.event.Turn.{Turn}
use Rattle.mc_box.specs.declared.event.MediaChange.TheVariants.{Hear, Talk}
use Rattle.mc_box.specs.declared.limit.TheConstants.{LAST_VERSION}
use Rattle.mc_box.specs.declared.setup.SlotMedia.{SlotMedia}

-- the signals that a box sends in an event, each with the local number of its slot, in the order of sending; and the
-- box after it
pub record BoxStep : Type 0 where
  pub sent : List (ℕ × Signal)
  pub after : BoxState

-- the step that sends this, and after which the box is this one
abbrev pub step_of : Sends → BoxState → BoxStep
step_of sends after = record { sent = sends_of sends; after = after }

-- ---- the turn of a goal

-- an end sends what its goal lacks
abbrev pub end_step : Goal → BoxState → ℕ → Cause → Option BoxStep
end_step goal box local cause =
    let signals = end_turn goal (slot_at box local) (is_push cause) (own box local) (sender box local) in
    option_map (λ after. record { sent = map (pair_of local) signals; after = with_slot box local after })
    (slot_send_all (slot_at box local) signals)

-- two linked slots, the lower one first, pass on what each has of the other
abbrev pub pair_step : BoxState → ℕ → ℕ → Option Side → Option BoxStep
pair_step box low high closed =
    let signals = link_turn (slot_at box low) (slot_at box high) closed in
    option_and_then (λ first. option_map (λ second. record {
      sent = map (with_number low high) signals;
      after = with_slot (with_slot box low first) high second;
    })
    (slot_send_all (slot_at box high) (sent_by_second signals)))
    (slot_send_all (slot_at box low) (sent_by_first signals))

-- of two linked slots, the lower one is the first
abbrev pub side_of : ℕ → ℕ → Side
side_of local partner = if nat_lt local partner then First else Second

-- a link's turn, as seen from one of its slots
abbrev pub link_step : BoxState → ℕ → ℕ → Cause → Option BoxStep
link_step box local partner cause =
    pair_step box (min local partner) (max local partner) (closed_side cause (side_of local partner))

abbrev pub goal_step_by : SlotGoal → BoxState → ℕ → Cause → Option BoxStep
goal_step_by (End goal) box local cause = end_step goal box local cause
goal_step_by (Link partner) box local cause = link_step box local partner cause

-- the turn of the goal that holds a slot, by what it follows
abbrev pub goal_step : BoxState → ℕ → Cause → Option BoxStep
goal_step box local cause = goal_step_by (goal_at box local) box local cause

-- how many signals the turn of a link is
abbrev pub pair_length : BoxState → ℕ → ℕ → Option Side → ℕ
pair_length box low high closed = length (link_turn (slot_at box low) (slot_at box high) closed)

-- and the turn of a goal
abbrev pub turn_length_by : SlotGoal → BoxState → ℕ → Cause → ℕ
turn_length_by (End goal) box local cause =
    length (end_turn goal (slot_at box local) (is_push cause) (own box local) (sender box local))
turn_length_by (Link partner) box local cause =
    pair_length box (min local partner) (max local partner) (closed_side cause (side_of local partner))

-- and that of the goal that holds a slot
abbrev pub turn_length : BoxState → ℕ → Cause → ℕ
turn_length box local cause = turn_length_by (goal_at box local) box local cause

-- ---- a signal is taken

-- an answer stands before what the goal sends
abbrev pub with_answer : ℕ → Option Signal → BoxStep → BoxStep
with_answer local answer step = record step { sent = map (pair_of local) (answer_signals answer) ++ step.sent }

-- the slot takes the signal, and the goal that holds it has its turn
abbrev pub take_step : BoxState → ℕ → Signal → Option BoxStep
take_step box local signal =
    option_and_then (λ took. option_map (with_answer local took.answer)
    (goal_step (with_slot box local took.after) local (cause_of signal took.after.state)))
    (slot_take (slot_at box local) signal)

-- ---- goals change

-- what was sent before stands first
abbrev pub sends_first : List (ℕ × Signal) → BoxStep → BoxStep
sends_first sent step = record step { sent = sent ++ step.sent }

-- the goals of these slots have their turns one after another, each pushed
abbrev pub goal_steps : BoxState → List ℕ → Option BoxStep
goal_steps box [] = Some (record { sent = []; after = box })
goal_steps box (local ∷ locals) =
    option_and_then (λ step. option_map (sends_first step.sent) (goal_steps step.after locals))
    (goal_step box local Push)

-- each goal that isn't as it was has its turn
abbrev pub changed_steps : BoxState → List SlotGoal → Option BoxStep
changed_steps box olds = goal_steps box (changed_slots olds box.goals)

-- the box gets new goals, and each that has changed has its turn
abbrev pub goals_step : BoxState → List SlotGoal → Option BoxStep
goals_step box goals = changed_steps (with_goals box goals) box.goals

abbrev pub set_step : BoxState → Change → Option BoxStep
set_step box change = goals_step box (change_goals box.goals change)

-- ---- a device's media change

-- hearing is set, which makes the descriptor a newer one, also where the flag stays
abbrev pub with_hearing : Bool → SlotMedia → SlotMedia
with_hearing on media = record media { version = media.version + 1; hears = on }

-- talking is set, which leaves the descriptor
abbrev pub with_talking : Bool → SlotMedia → SlotMedia
with_talking on media = record media { talks = on }

-- the media of a slot are set, and its goal has its turn
abbrev pub change_media : BoxState → ℕ → SlotMedia → Option BoxStep
change_media box local media = goal_step (with_media box local media) local Other

-- hearing is set, where there is a newer version
abbrev pub hear_step : BoxState → ℕ → Bool → Option BoxStep
hear_step box local on =
    if (media_at box local).version == LAST_VERSION then None
    else change_media box local (with_hearing on (media_at box local))

-- talking is set
abbrev pub talk_step : BoxState → ℕ → Bool → Option BoxStep
talk_step box local on = change_media box local (with_talking on (media_at box local))

-- a media flag is set
abbrev pub media_step : BoxState → MediaChange → Option BoxStep
media_step box (Hear local on) = hear_step box local on
media_step box (Talk local on) = talk_step box local on

-- ---- a box's program

-- the box keeps a told word, over an earlier one
abbrev pub tell_step : BoxState → ℕ → Option BoxStep
tell_step box word = Some (record { sent = []; after = record box { told = Some word } })

-- the enabled transition of the box's program
abbrev pub enabled_shift : BoxState → Option Shifted
enabled_shift box = option_and_then (λ states. enabled states box.at box.slots box.told) box.program

-- a transition that uses up the told word leaves none
abbrev pub kept_word : Option ℕ → Bool → Option ℕ
kept_word told spends = if spends then None else told

-- the box is at the state that a transition leads to
abbrev pub with_shift : BoxState → Shifted → BoxState
with_shift box shift = record box { at = Some shift.target; told = kept_word box.told shift.spends }

-- the goals of the state that a transition leads to
abbrev pub shift_goals : BoxState → Shifted → List SlotGoal
shift_goals box shift = goals_in (states_of box.program) shift.target

-- the box goes to that state and gets its goals
abbrev pub shift_by : BoxState → Shifted → Option BoxStep
shift_by box shift = goals_step (with_shift box shift) (shift_goals box shift)

-- by the enabled transition
abbrev pub shift_step : BoxState → Option BoxStep
shift_step box = option_and_then (shift_by box) (enabled_shift box)

-- ---- an event

-- two different slots of one medium, on a feature
abbrev pub may_link : BoxState → ℕ → ℕ → Bool
may_link box first second =
    is_feature box.kind && is_slot box first && is_slot box second && not (first == second)
    && is_same_medium (slot_at box first).medium (slot_at box second).medium

-- whether an event can happen to a box, where a Take has a lawful signal to take, and a Hear a newer version
abbrev pub is_enabled : BoxState → Event → Bool
is_enabled box (Take local) = is_slot box local
is_enabled box (Set (NewEnd local goal)) = is_slot box local
is_enabled box (Set (NewLink first second)) = may_link box first second
is_enabled box (Media (Hear local on)) = is_device box.kind && is_slot box local
is_enabled box (Media (Talk local on)) = is_device box.kind && is_slot box local
is_enabled box (Tell word) = is_some box.program
is_enabled box (Retry local) = is_slot box local && box_owes box local
is_enabled box Shift = is_some (enabled_shift box)

-- what an event that takes nothing does
abbrev pub event_step : BoxState → Event → Option BoxStep
event_step box (Set change) = set_step box change
event_step box (Media change) = media_step box change
event_step box (Tell word) = tell_step box word
event_step box (Retry local) = goal_step box local Push
event_step box Shift = shift_step box
event_step box event = None

-- an event of a box, with the signal that it takes; a Take alone takes one
abbrev pub box_event : BoxState → Event → Option Signal → Option BoxStep
box_event box (Take local) (Some signal) = if is_slot box local then take_step box local signal else None
box_event box event None = if is_enabled box event then event_step box event else None
box_event box event (Some signal) = None

-- a Hear has no case where its slot's version is the last
abbrev pub is_version_end : BoxState → Event → Bool
is_version_end box (Media (Hear local on)) = (media_at box local).version == LAST_VERSION
is_version_end box event = false

abbrev pub is_take : Event → Bool
is_take (Take local) = true
is_take event = false

abbrev pub is_shift : Event → Bool
is_shift Shift = true
is_shift event = false

abbrev pub is_retry : Event → Bool
is_retry (Retry local) = true
is_retry event = false

-- events that come from commands
abbrev pub is_command : Event → Bool
is_command (Set change) = true
is_command (Media change) = true
is_command (Tell word) = true
is_command event = false

-- an event, and the box that it happens to
abbrev pub turn_of : ℕ → Event → Turn
turn_of who event = record { who = who; event = event }

-- a step was made: the box is this one after it, and what it sends is appended to what was there
pub record Appends (made : Option BoxStep) (after : BoxState) (before items : List (ℕ × Signal)) : Type 0 where
  pub sent : List (ℕ × Signal)
  pub goes : made ≡ Some record { sent = sent; after = after }
  pub appended : items ≡ before ++ sent

-- and here it is added to a list of sendings
abbrev pub AddsStep : Option BoxStep → BoxState → Sends → Sends → Type 0
AddsStep made after old new = Appends made after (sends_of old) (sends_of new)
