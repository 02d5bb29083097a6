-- Worlds whose programs don't come to rest.
use Rattle.std.specs.Prelude.{◌≡◌, ◌<◌, ℕ, false, true, IsTrue, List, count_by, length, Option, Some, None}
use Rattle.mc_box.specs.BoxEvents.{is_enabled}
use Rattle.mc_box.specs.declared.event.Event.TheVariants.{Shift}
use Rattle.mc_box.specs.declared.event.Turn.{Turn}
use Rattle.mc_model.specs.Paths.{has_ring}
use Rattle.mc_model.specs.Settles.{can_shift, is_quiet, is_shift_of}
use Rattle.mc_model.specs.Worlds.{WorldState, box_at}
use Rattle.mc_box.specs.declared.limit.TheConstants.{SHIFT_LIMIT}

-- the program of this box has an enabled transition, and that of no box before it
pub record IsFirstShifter (world : WorldState) (who : ℕ) : Type 0 where
  pub inside : who < length world.boxes
  pub can : is_enabled (box_at world who) Shift ≡ true
  pub least : (other : ℕ) → other < who → is_enabled (box_at world other) Shift ≡ false

-- or none has one
abbrev pub IsFirstShifterOr : WorldState → Option ℕ → Type 0
IsFirstShifterOr world (Some who) = IsFirstShifter world who
IsFirstShifterOr world None = can_shift world ≡ false

-- after the turns of a settle nothing is under way, and there is no ring, but a program can still go on: this box is
-- the first whose program can, and it has made all its Shifts
pub record IsRestless (turns : List Turn) (last : WorldState) (who : ℕ) : Type 0 where
  pub quiet : IsTrue (is_quiet last)
  pub no_ring : has_ring last ≡ false
  pub first : IsFirstShifter last who
  pub made : count_by (is_shift_of who) turns ≡ SHIFT_LIMIT
