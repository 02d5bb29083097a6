-- The commands of a settle, in the parts of a network.
use Rattle.std.specs.Prelude.{◌≡◌, ◌<◌, ◌≤◌, ◌++◌, ℕ, List, drop, length, slice_get, slice_set, Some}
use Rattle.mc_box.specs.declared.event.Turn.{Turn}
use Rattle.mc_part.specs.Divisions.{home_at}
use Rattle.mc_box.specs.declared.limit.TheConstants.{SHIFT_LIMIT}
use Rattle.mc_part.specs.Knowing.{OwesNone}
use Rattle.mc_part.specs.Parts.{IsWithin, shifts_of}
use Rattle.mc_part.specs.Phases.{IsKnown}
use Rattle.mc_part.specs.Running.{NoneLeft}
use Rattle.mc_part.specs.declared.part.Part.{Part}
use Rattle.mc_part.specs.declared.part_run.PartRun.{PartRun}

-- a part is the same but for its commands, and its counts of Shifts
pub record IsRecommanded (a b : Part) : Type 0 where
  pub engine : b.engine ≡ a.engine
  pub ports : b.ports ≡ a.ports
  pub log : b.log ≡ a.log
  pub stamp : b.stamp ≡ a.stamp
  pub heard : b.heard ≡ a.heard

pub record AreRecommanded (old new : List PartRun) : Type 0 where
  pub count : length new ≡ length old
  pub each : (i : ℕ) (a b : PartRun) → slice_get old i ≡ Some a → slice_get new i ≡ Some b
      → IsRecommanded a.part b.part

-- a part has no commands left, and no box of it has made a Shift
pub record HasBegunSettle (a b : PartRun) : Type 0 where
  pub same : IsRecommanded a.part b.part
  pub left : NoneLeft b.part
  pub shifts : (who : ℕ) → shifts_of b.part who ≡ 0
  pub within : IsWithin a.part → IsWithin b.part
  pub known : IsKnown a → IsKnown b

-- no box of a part has made a Shift
abbrev pub HasNoShifts : PartRun → Type 0
HasNoShifts run = (who : ℕ) → shifts_of run.part who ≡ 0

-- no box of a part has made all its Shifts
abbrev pub HasSpare : PartRun → Type 0
HasSpare run = (who : ℕ) → shifts_of run.part who < SHIFT_LIMIT

-- no slot of a part owes a retry
abbrev pub HasNoneOwed : PartRun → Type 0
HasNoneOwed run = (who : ℕ) → OwesNone run.part.engine who

-- of a run nothing changes but what is known of it, which is so
pub record IsKnownAnew (a b : PartRun) : Type 0 where
  pub kept : b ≡ record a { known = b.known }
  pub known : IsKnown b

-- some part has a command that isn't made
pub record IsLeftIn (runs : List PartRun) : Type 0 where
  pub part : ℕ
  pub run : PartRun
  pub there : slice_get runs part ≡ Some run
  pub some : run.part.used < length run.part.commands.items

-- or this one has none
abbrev pub IsNoneLeft : PartRun → Type 0
IsNoneLeft run = length run.part.commands.items ≤ run.part.used

-- a part has these commands more, after those that it has left, and is the same else
pub record HasAdded (a b : Part) (more : List Turn) : Type 0 where
  pub kept : b ≡ record a { commands = b.commands; used = b.used }
  pub left : drop b.used b.commands.items ≡ drop a.used a.commands.items ++ more
  pub within : IsWithin a → IsWithin b

-- so has one of some
pub record AddsAt (old new : List PartRun) (part : ℕ) (more : List Turn) : Type 0 where
  pub a : PartRun
  pub b : PartRun
  pub there : slice_get old part ≡ Some a
  pub run : b ≡ record a { part = b.part }
  pub added : HasAdded a.part b.part more
  pub after_is : new ≡ slice_set old part b

-- a command for a box, by its number in its part
abbrev pub command_at : List ℕ → Turn → Turn
command_at assigned turn = record { who = (home_at assigned turn.who).1; event = turn.event }
