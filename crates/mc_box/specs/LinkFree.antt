-- Boxes without links: each of their slots is an end.
use Rattle.std.specs.Prelude.{◌≡◌, ℕ, Bool, true, false, Option, Some}
use Rattle.mc_signal.specs.declared.Signal.{Signal}
use Rattle.mc_slot.specs.EndTurn.{is_end_goal}
use Rattle.mc_box.specs.BoxEvents.{BoxStep, box_event}
use Rattle.mc_box.specs.Boxes.{BoxState, goal_at}
use Rattle.mc_box.specs.declared.event.Change.TheVariants.{Link as NewLink}
use Rattle.mc_box.specs.declared.event.Event.{Event}
use Rattle.mc_box.specs.declared.event.Event.TheVariants.{Set, Shift}

-- no slot of the box is linked
abbrev pub IsUnlinked : BoxState → Type 0
IsUnlinked box = (local : ℕ) → is_end_goal (goal_at box local) ≡ true

-- the event may link slots
abbrev pub is_linking : Event → Bool
is_linking (Set (NewLink first second)) = true
is_linking Shift = true
is_linking event = false

-- a box without links has none after an event that links none
abbrev pub EventKeepsLinkFree : Type 0
EventKeepsLinkFree = (box : BoxState) (event : Event) (signal : Option Signal) (step : BoxStep)
    → IsUnlinked box → is_linking event ≡ false → box_event box event signal ≡ Some step → IsUnlinked step.after
