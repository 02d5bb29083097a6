-- The limit of Shifts: what each engine keeps beside `IsSettled`, which has no limit.
use Rattle.std.specs.Prelude.{◌≤◌, ℕ, List, count_by}
use Rattle.mc_box.specs.declared.event.Turn.{Turn}
use Rattle.mc_box.specs.declared.limit.TheConstants.{SHIFT_LIMIT}
use Rattle.mc_model.specs.Settles.{is_shift_of}

-- no box makes more than SHIFT_LIMIT Shifts among these turns
abbrev pub KeepsShiftLimit : List Turn → Type 0
KeepsShiftLimit turns = (who : ℕ) → count_by (is_shift_of who) turns ≤ SHIFT_LIMIT
