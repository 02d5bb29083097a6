-- The versions that the descriptors of a text's slots begin at, and how often its commands make them newer.
use Rattle.std.specs.Prelude.{◌≡◌, ◌+◌, ◌≤◌, ◌<◌, ℕ, length}
use Rattle.mc_box.specs.declared.limit.TheConstants.{LAST_VERSION}
use Rattle.mc_model.specs.Settles.{hears_in}
use Rattle.mc_model.specs.Worlds.{WorldState, box_at, version_at}
use Rattle.mc_lines.specs.Meaning.{declared_at}
use Rattle.mc_net.specs.Nets.{IsFirstWorld, batches_of}
use Rattle.mc_lines.specs.SoFar.{Declared}

-- the first version of each slot and its Hears up to the last settle don't pass the last version together
abbrev pub MeetsNoLast : Declared → Type 0
MeetsNoLast d =
    (who local : ℕ) → (declared_at d.boxes who).version + hears_in who local (batches_of d.commands) ≤ LAST_VERSION

-- in the first world each slot has the version that the line of its box says
abbrev pub FirstVersions : Type 0
FirstVersions =
    (d : Declared) (world : WorldState) (who local : ℕ) → IsFirstWorld d world → who < length world.boxes
    → local < length (box_at world who).slots
    → version_at world who local ≡ (declared_at d.boxes who).version
