-- Boxes whose programs go by told words alone: how many Shifts they can make.
use Rattle.std.specs.Prelude.{◌≡◌, ◌+◌, ◌≤◌, ℕ, if◌then◌else◌, is_some, IsTrue, List, All, count_by, Option, Some, None}
use Rattle.mc_rule.specs.Programs.{ProgStateState, enabled, spends}
use Rattle.mc_slot.specs.declared.Slot.{Slot}
use Rattle.mc_box.specs.Boxes.{BoxState, states_of}
use Rattle.mc_box.specs.declared.event.Turn.{Turn}
use Rattle.mc_model.specs.Settles.{is_shift_of, is_tell_of, rests}
use Rattle.mc_model.specs.Sound.{IsSound}
use Rattle.mc_model.specs.Steps.{run}
use Rattle.mc_model.specs.Worlds.{WorldState, box_at}

-- each transition of a state waits for a told word, and uses it up
abbrev pub WaitsForWords : ProgStateState → Type 0
WaitsForWords one = All (λ rule. IsTrue (spends rule.guard)) one.rules

-- no transition of the box's program waits for a state of a slot
abbrev pub GoesByWords : BoxState → Type 0
GoesByWords box = All WaitsForWords (states_of box.program)

-- nor of any box's
abbrev pub ShiftsByWords : WorldState → Type 0
ShiftsByWords world = (who : ℕ) → GoesByWords (box_at world who)

-- a told word that is kept, or none
abbrev pub words_kept : Option ℕ → ℕ
words_kept None = 0
words_kept (Some word) = 1

-- at no state the Shift to the first state, and then one by the kept word, if any; at a state the one that is enabled,
-- if any
abbrev pub shifts_left : Option (List ProgStateState) → Option ℕ → List Slot → Option ℕ → ℕ
shifts_left None at slots told = 0
shifts_left (Some states) None slots told = 1 + words_kept told
shifts_left (Some states) (Some at) slots told = if is_some (enabled states (Some at) slots told) then 1 else 0

-- how many Shifts such a box can make, at most, before another word is told
abbrev pub still_to_come : BoxState → ℕ
still_to_come box = shifts_left box.program box.at box.slots box.told

-- words bound Shifts: of a box that goes by words a run has at most as many Shifts as it has Tells of the box, and as
-- were still to come before the run less those still to come after it
abbrev pub WordsBoundShifts : Type 0
WordsBoundShifts =
    (world last : WorldState) (turns : List Turn) (who : ℕ) → IsSound world → GoesByWords (box_at world who)
    → run world turns ≡ Some last
    → count_by (is_shift_of who) turns + still_to_come (box_at last who) ≤ still_to_come (box_at world who)
    + count_by (is_tell_of who) turns

-- a run leaves each program by words
abbrev pub RunKeepsWords : Type 0
RunKeepsWords =
    (world last : WorldState) (turns : List Turn) → IsSound world → ShiftsByWords world → run world turns ≡ Some last
    → ShiftsByWords last

-- in a world that rests no Shift is still to come
abbrev pub RestAwaitsWords : Type 0
RestAwaitsWords = (world : WorldState) (who : ℕ) → IsTrue (rests world) → still_to_come (box_at world who) ≡ 0
