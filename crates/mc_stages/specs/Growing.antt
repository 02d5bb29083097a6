-- What is answered where a network doesn't grow.
use Rattle.std.specs.Prelude.{◌≡◌, ◌<◌, ℕ, List, Some}
use Rattle.std.specs.declared.option.Option.{Option}
use Rattle.mc_growth.specs.Growths.{GrownState, Growth, grown_by_all}
use Rattle.mc_stages.specs.StageRuns.{IsCutShort, RefusesGrowth}
use Rattle.mc_stages.specs.declared.growing.GrowthFault.{GrowthFault}
use Rattle.mc_stages.specs.declared.growing.GrowthFault.TheVariants.{InUse, NoMemory}
use Rattle.mc_model.specs.Worlds.{WorldState, place, slot_count}

-- this is the slot in use, and its place; want of memory says nothing of it
abbrev pub TellsUsed : WorldState → Option ℕ → GrowthFault → Type 0
TellsUsed world slot (InUse used) = (slot ≡ Some used.at) × (used.place ≡ place world used.at)
TellsUsed world slot (NoMemory e) = Unit {0}

-- a join or cut is refused at this slot of the network
abbrev pub IsRefused : GrownState → Growth → GrowthFault → Type 0
IsRefused network growth (InUse used) =
    RefusesGrowth network growth used.at × (used.place ≡ place network.world used.at)
IsRefused network growth (NoMemory e) = Unit {0}

-- several joins and cuts are cut short there, and the slot's place is that in the network that all of them make
abbrev pub CutsShort : GrownState → List Growth → GrowthFault → Type 0
CutsShort network growths (InUse used) =
    IsCutShort network growths used.at × (used.place ≡ place (grown_by_all network growths).world used.at)
    × (used.at < slot_count (grown_by_all network growths).world)
CutsShort network growths (NoMemory e) = Unit {0}
