-- Laws of versions: how Hears count them along runs, and where a settle meets the last one.
use Rattle.std.specs.Prelude.{◌≡◌, ◌+◌, ◌<◌, ℕ, List, length, Some}
use Rattle.mc_box.specs.declared.event.Turn.{Turn}
use Rattle.mc_box.specs.declared.limit.TheConstants.{LAST_VERSION}
use Rattle.mc_model.specs.Settles.{IsSettled, IsStopped, MeetsLast, hears_of}
use Rattle.mc_model.specs.Sound.{IsSound}
use Rattle.mc_model.specs.Steps.{run}
use Rattle.mc_model.specs.Worlds.{WorldState, box_at, version_at}

-- a run counts the version of a slot up by its Hears of it
abbrev pub VersionsCountHears : Type 0
VersionsCountHears = (world last : WorldState) (turns : List Turn) → IsSound world → run world turns ≡ Some last
    → (who local : ℕ) → version_at last who local ≡ version_at world who local + hears_of who local turns

-- a settled segment has the Hears of its batch
abbrev pub SettlesCountHears : Type 0
SettlesCountHears = (world last : WorldState) (batch turns : List Turn) → IsSettled world batch turns last
    → (who local : ℕ) → hears_of who local turns ≡ hears_of who local batch

-- the version of some slot that is there, and so many Hears of it, are more than the last version together
pub record PassesLast (world : WorldState) (hears : ℕ → ℕ → ℕ) : Type 0 where
  pub who : ℕ
  pub local : ℕ
  pub here : who < length world.boxes
  pub inside : local < length (box_at world who).slots
  pub passes : LAST_VERSION < version_at world who local + hears who local

-- the last version is met only so
abbrev pub LastIsPassed : Type 0
LastIsPassed =
    (world last : WorldState) (batch turns : List Turn) (at : ℕ) → IsSound world → IsStopped world batch turns last
    → MeetsLast batch turns last at → PassesLast world (λ who local. hears_of who local batch)
