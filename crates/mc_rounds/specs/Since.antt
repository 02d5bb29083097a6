-- What is known of Shifts within a settle, by the turns that were made since it began.
use Rattle.std.specs.Prelude.{◌≡◌, ℕ, false, List, count_by, slice_get, IsTrue, Some}
use Rattle.mc_box.specs.BoxEvents.{is_enabled, is_shift}
use Rattle.mc_box.specs.declared.event.Event.TheVariants.{Shift}
use Rattle.mc_box.specs.declared.event.Turn.{Turn}
use Rattle.mc_model.specs.Settles.{is_shift_of}
use Rattle.mc_model.specs.Worlds.{WorldState, box_at}
use Rattle.mc_divided.specs.States.{NetworkState}

-- each Shift among them is counted, and no other
abbrev pub CountsShifts : List Turn → NetworkState → Type 0
CountsShifts turns state = (who : ℕ) → state.shifts who ≡ count_by (is_shift_of who) turns

-- the program of a box has no enabled transition
abbrev pub ShiftsNone : WorldState → ℕ → Type 0
ShiftsNone world who = is_enabled (box_at world who) Shift ≡ false

-- nor has that of any box that has made one of these Shifts
abbrev pub ShiftedHaveNone : WorldState → List Turn → Type 0
ShiftedHaveNone world turns = (at : ℕ) (turn : Turn) → slice_get turns at ≡ Some turn → IsTrue (is_shift turn.event)
    → ShiftsNone world turn.who
