-- The turn of an end goal: what an end sends after a turn that concerns it, by its goal and the slot's state.
use Rattle.std.specs.Prelude.{◌≡◌, Option, Some, None, Bool, true, false, if◌then◌else◌, List, [], ◌∷◌, ◌++◌}
use Rattle.std.specs.Option.{option_eq}
use Rattle.mc_signal.specs.Choice.{choose}
use Rattle.mc_signal.specs.Same.{is_same_descriptor, is_same_selector}
use Rattle.mc_signal.specs.declared.Descriptor.{Descriptor}
use Rattle.mc_signal.specs.declared.Selector.{Selector}
use Rattle.mc_signal.specs.declared.Sender.{Sender}
use Rattle.mc_signal.specs.declared.Signal.{Signal}
use Rattle.mc_signal.specs.declared.Signal.TheVariants.{Open, Oack, Close, Closeack, Describe, Select}
use Rattle.mc_slot.specs.declared.Cause.{Cause}
use Rattle.mc_slot.specs.declared.Cause.TheVariants.{Other, Close as ByClose, Push}
use Rattle.mc_slot.specs.declared.Goal.{Goal}
use Rattle.mc_slot.specs.declared.Goal.TheVariants.{Open as ToOpen, Close as ToClose}
use Rattle.mc_slot.specs.declared.Slot.{Slot}
use Rattle.mc_slot.specs.declared.SlotGoal.{SlotGoal}
use Rattle.mc_slot.specs.declared.SlotGoal.TheVariants.{End, Link}
use Rattle.mc_slot.specs.declared.State.{State}
use Rattle.mc_slot.specs.declared.State.TheVariants.{Closed, Opened, Flowing, Closing}

-- a describe of the own descriptor, where the last that was sent differs
abbrev pub describe_newer : Option Descriptor → Descriptor → List Signal
describe_newer last own = if option_eq is_same_descriptor last (Some own) then [] else Describe own ∷ []

-- a selector, where the last that was sent differs
abbrev pub select_newer : Option Selector → Selector → List Signal
select_newer last choice = if option_eq is_same_selector last (Some choice) then [] else Select choice ∷ []

-- the select that answers what an opened slot got
abbrev pub select_first : Option Descriptor → Sender → List Signal
select_first None me = []
select_first (Some got) me = Select (choose got me) ∷ []

-- the select that a flowing slot owes for what it got
abbrev pub select_again : Option Descriptor → Option Selector → Sender → List Signal
select_again None last me = []
select_again (Some got) last me = select_newer last (choose got me)

-- what an end that holds or opens sends when it is opened or flowing
abbrev pub live_turn : State → Slot → Descriptor → Sender → List Signal
live_turn Opened slot own me = Oack own ∷ select_first slot.got me
live_turn Flowing slot own me = describe_newer slot.sent own ++ select_again slot.got slot.sel_out me
live_turn state slot own me = []

-- the table of end goals, by the goal and the state
abbrev pub end_turn_in : Goal → State → Slot → Bool → Descriptor → Sender → List Signal
end_turn_in ToClose Closed slot pushed own me = []
end_turn_in ToClose Closing slot pushed own me = []
end_turn_in ToClose state slot pushed own me = Close ∷ []
end_turn_in ToOpen Closed slot pushed own me = if pushed then Open slot.medium own ∷ [] else []
end_turn_in goal state slot pushed own me = live_turn state slot own me

-- what an end sends in a turn, pushed or not
abbrev pub end_turn : Goal → Slot → Bool → Descriptor → Sender → List Signal
end_turn goal slot pushed own me = end_turn_in goal slot.state slot pushed own me

-- an end is at rest where a turn that isn't pushed sends nothing
abbrev pub IsAtRest : Goal → Slot → Descriptor → Sender → Type 0
IsAtRest goal slot own me = end_turn goal slot false own me ≡ []

-- an end that is to open and is closed owes a retry
abbrev pub owes_in : Goal → State → Bool
owes_in ToOpen Closed = true
owes_in goal state = false

abbrev pub owes : Goal → Slot → Bool
owes goal slot = owes_in goal slot.state

-- what a goal turn follows, by the signal that its slot took and the state after that
abbrev pub cause_of : Signal → State → Cause
cause_of Close Closed = ByClose
cause_of Closeack Closed = Push
cause_of signal state = Other

-- an end may open now
abbrev pub is_push : Cause → Bool
is_push Push = true
is_push cause = false

-- the goal of a slot is an end's
abbrev pub is_end_goal : SlotGoal → Bool
is_end_goal (End goal) = true
is_end_goal (Link partner) = false
