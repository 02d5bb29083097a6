-- The Shifts that boxes may still make, as code keeps them, with counts of what each box lists beside its Takes.
use Rattle.std.specs.Prelude.{◌≡◌, ◌≢◌, ◌<◌, ℕ, false, List, ◌++◌, length, replicate, slice_index_or, Option, Some, None}
use Rattle.mc_box.specs.BoxEvents.{is_shift}
use Rattle.mc_box.specs.declared.event.Turn.{Turn}
use Rattle.mc_model.specs.Unprogrammed.{HasNoPrograms}
use Rattle.mc_model.specs.Worlds.{WorldState}
use Rattle.mc_seq.specs.Ready.{CountsEach}
use Rattle.mc_seq.specs.Schedule.{command_candidates, shift_of}
use Rattle.mc_box.specs.declared.limit.TheConstants.{SHIFT_LIMIT}
use Rattle.mc_seq.specs.declared.shifting.Shifts.{Shifts}

-- at the beginning each box may make all its Shifts
abbrev pub all_spare : WorldState → List ℕ
all_spare world = replicate (length world.boxes) SHIFT_LIMIT

-- and where no box has a program none is made
abbrev pub spare_of : WorldState → Option Shifts → List ℕ
spare_of world None = all_spare world
spare_of world (Some shifts) = shifts.spare.items

-- the next command of a box, and its Shift
abbrev pub others_of : WorldState → List Turn → (shifts : List ℕ) → ℕ → List Turn
others_of world left shifts who = command_candidates left who ++ shift_of world shifts who

-- each box has its number of Shifts, and the count of these two
pub record AreShiftsCounted (world : WorldState) (left : List Turn) (shifts : Shifts) : Type 0 where
  pub long : length shifts.spare.items ≡ length world.boxes
  pub counted : CountsEach (others_of world left shifts.spare.items) shifts.others (length world.boxes)

-- where no box has a program there is nothing to count
abbrev pub AreShiftsKept : WorldState → List Turn → Option Shifts → Type 0
AreShiftsKept world left None = HasNoPrograms world
AreShiftsKept world left (Some shifts) = AreShiftsCounted world left shifts

-- ---- after a turn, before it is counted

-- counts are right but for one box
pub record AreCountedBut (world : WorldState) (left : List Turn) (shifts : Shifts) (who : ℕ) : Type 0 where
  pub long : length shifts.spare.items ≡ length world.boxes
  pub others_long : length shifts.others ≡ length world.boxes
  pub there : who < length world.boxes
  pub counts : (other : ℕ) → other < length world.boxes → other ≢ who
      → slice_index_or shifts.others other 0 ≡ length (others_of world left shifts.spare.items other)

-- where no box has a program the turn is no Shift
abbrev pub AreKeptBut : WorldState → List Turn → Option Shifts → Turn → Type 0
AreKeptBut world left None turn = HasNoPrograms world × (is_shift turn.event ≡ false)
AreKeptBut world left (Some shifts) turn = AreCountedBut world left shifts turn.who

-- after a round of retries: there are as many of both as boxes
abbrev pub AreShiftsLong : WorldState → Option Shifts → Type 0
AreShiftsLong world None = HasNoPrograms world
AreShiftsLong world (Some shifts) =
    (length shifts.spare.items ≡ length world.boxes) × (length shifts.others ≡ length world.boxes)
