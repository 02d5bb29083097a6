-- The commands that are left to boxes.
use Rattle.std.specs.Prelude.{ℕ, ◌+◌, List, [], ◌∷◌, ◌++◌, map}
use Rattle.mc_box.specs.BoxEvents.{turn_of}
use Rattle.mc_box.specs.declared.event.Event.{Event}
use Rattle.mc_box.specs.declared.event.Turn.{Turn}

-- what is left to the boxes from a number on, as turns, box by box
abbrev pub turns_from : ℕ → List (List Event) → List Turn
turns_from who [] = []
turns_from who (events ∷ lists) = map (turn_of who) events ++ turns_from (who + 1) lists
