-- What of a world has names.
use Rattle.std.specs.Prelude.{ℕ, ◌<◌, ◌≡◌, length}
use Rattle.std.specs.List.{All}
use Rattle.mc_model.specs.Worlds.{WorldState, box_at, place, slot_count}
use Rattle.mc_seq.specs.declared.fault.SettleFault.{SettleFault}
use Rattle.mc_seq.specs.declared.fault.SettleFault.TheVariants.{
  NoMemory,
  Restless as NeverRests,
  Ring as AtRing,
  VersionEnd as EndsVersion,
}
use Rattle.mc_signal.specs.Choice.{codecs_of}
use Rattle.mc_text.specs.NameLists.{NameLists, slot_names}

-- a place has: its box, and its slot there
abbrev pub IsNamedPlace : NameLists → ℕ × ℕ → Type 0
IsNamedPlace names at = (at.0 < length names.boxes) × (at.1 < length (slot_names names at.0))

-- so has that of a fault, where it has one
abbrev pub IsNamedFault : NameLists → SettleFault → Type 0
IsNamedFault names (EndsVersion stopped) = IsNamedPlace names stopped.place
IsNamedFault names (AtRing stopped) = IsNamedPlace names stopped.place
IsNamedFault names (NeverRests stopped) = stopped.at < length names.boxes
IsNamedFault names (NoMemory e) = Unit {0}

-- each box of a world has a name, each slot, and each codec that a box receives
pub record HasNames (names : NameLists) (world : WorldState) : Type 0 where
  pub boxes : length names.boxes ≡ length world.boxes
  pub slots : (s : ℕ) → s < slot_count world → IsNamedPlace names (place world s)
  pub codecs : (who : ℕ) → All (λ codec. codec < length names.codecs) (codecs_of (box_at world who).receives)
