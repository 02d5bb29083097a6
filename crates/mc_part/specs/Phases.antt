-- What parts do in a phase.
use Rattle.std.specs.Prelude.{◌≡◌, ◌<◌, ◌≤◌, ◌^◌, ℕ, Bool, true, false, IsFalse, IsTrue, List, length, max, slice_get, Result, Some}
use Rattle.mc_part.specs.Knowing.{HoldsOf}
use Rattle.mc_part.specs.Parts.{IsWithin, LeadsAway}
use Rattle.mc_part.specs.Running.{AreCalmFrom, EndsAs, HasRoom, Progresses, RunsAs, UsesAs}
use Rattle.mc_part.specs.declared.stop.Ended.{Ended}
use Rattle.mc_part.specs.declared.stop.PartStop.{PartStop}
use Rattle.mc_part.specs.declared.part_run.PartRun.{PartRun}
use Rattle.mc_merge.specs.Weaving.{IsWritten}
use Rattle.mc_merge.specs.declared.log.Made.{Made}
use Rattle.mc_merge.specs.declared.log.PartLog.{PartLog}

-- each of these
abbrev pub EachOf : {A : Type 0} → (A → Type 0) → List A → Type 0
EachOf {A = A} P items = (i : ℕ) (item : A) → slice_get items i ≡ Some item → P item

-- each of these became the one at its place
pub record EachChanged {A : Type 0} (R : A → A → Type 0) (old new : List A) : Type 0 where
  pub count : length new ≡ length old
  pub each : (i : ℕ) (a b : A) → slice_get old i ≡ Some a → slice_get new i ≡ Some b → R a b

-- what is known of a part is so
abbrev pub IsKnown : PartRun → Type 0
IsKnown run = HoldsOf run.known run.part

-- a part may run: the channels of its ports lead away, its stamps and counts fit, no box but those that have commands
-- can shift, unless each is to be tried, and retries fit into the budget
pub record IsReady (retries every : Bool) (budget : ℕ) (run : PartRun) : Type 0 where
  pub away : LeadsAway run.part
  pub within : IsWithin run.part
  pub asked : IsTrue retries → IsTrue every
  pub calm : IsFalse every → AreCalmFrom 0 run.part
  pub few : length run.part.engine.boxes < 2 ^ 32
  pub room : HasRoom retries budget run.part

abbrev pub AreReady : Bool → Bool → ℕ → List PartRun → Type 0
AreReady retries every budget runs = EachOf (IsReady retries every budget) runs

-- what its run answered, and what that says
pub record HasEnded (retries : Bool) (budget : ℕ) (a b : PartRun) : Type 0 where
  pub result : Result Ended PartStop
  pub is : b.ended ≡ Some result
  pub runs : RunsAs retries a.part b.part result
  pub few : length b.part.log.items ≤ max budget (length a.part.log.items)
  pub ends : EndsAs result b.part budget
  pub progress : Progresses retries budget a.part b.part result
  pub used : IsFalse retries → UsesAs budget a.part b.part result

-- it ran, if it had something to do; and what it keeps while it runs it keeps
pub record HasGone (retries : Bool) (budget : ℕ) (a b : PartRun) : Type 0 where
  pub away : LeadsAway b.part
  pub within : IsWithin b.part
  pub active : b.active ≡ a.active
  pub idle : a.active ≡ false → b ≡ a
  pub ended : a.active ≡ true → HasEnded retries budget a b
  pub known : IsKnown a → IsKnown b

abbrev pub HaveGone : Bool → ℕ → List PartRun → List PartRun → Type 0
HaveGone retries budget old new = EachChanged (HasGone retries budget) old new

-- in a log the turns of these entries are written down, or none
pub record WritesTurns (made : List Made) (a b : PartLog) : Type 0 where
  pub written : IsWritten b.numbers.items made b.turns.items
  pub kept : b ≡ record a { turns = b.turns }

-- in the log of each part its turns are, or none
pub record HaveWritten (runs : List PartRun) (old new : List PartLog) : Type 0 where
  pub count : length new ≡ length old
  pub each : (i : ℕ) (run : PartRun) (a b : PartLog) → slice_get runs i ≡ Some run → slice_get old i ≡ Some a
      → slice_get new i ≡ Some b → WritesTurns run.part.log.items a b
