-- Worlds whose boxes have no programs: they rest where nothing is under way, and make no Shifts.
use Rattle.std.specs.Prelude.{◌≡◌, ℕ, List, IsFalse, None, Some}
use Rattle.std.specs.List.{list_any}
use Rattle.mc_box.specs.BoxEvents.{is_shift}
use Rattle.mc_box.specs.declared.event.Turn.{Turn}
use Rattle.mc_model.specs.Settles.{is_quiet, rests}
use Rattle.mc_model.specs.Sound.{IsSound}
use Rattle.mc_model.specs.Steps.{run}
use Rattle.mc_model.specs.Worlds.{WorldState, box_at}

-- no box has a program
abbrev pub HasNoPrograms : WorldState → Type 0
HasNoPrograms world = (who : ℕ) → (box_at world who).program ≡ None

-- none of these turns is a Shift
abbrev pub ShiftNone : List Turn → Type 0
ShiftNone turns = IsFalse (list_any (λ turn. is_shift turn.event) turns)

-- such a world rests where nothing is under way
abbrev pub QuietRests : Type 0
QuietRests = (world : WorldState) → HasNoPrograms world → is_quiet world ≡ rests world

-- and a run of it has no Shift
abbrev pub RunMakesNoShift : Type 0
RunMakesNoShift =
    (world last : WorldState) (turns : List Turn) → IsSound world → HasNoPrograms world → run world turns ≡ Some last
    → ShiftNone turns
