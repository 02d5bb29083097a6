-- How a settle stops, in whichever order its turns were made.
use Rattle.std.specs.Prelude.{ℕ, List}
use Rattle.mc_box.specs.declared.event.Turn.{Turn}
use Rattle.mc_model.specs.Rings.{IsFirstOnRing}
use Rattle.mc_model.specs.Settles.{IsStopped, MeetsLast}
use Rattle.mc_model.specs.Worlds.{WorldState}
use Rattle.mc_seq.specs.Places.{IsPlaced}
use Rattle.mc_seq.specs.Restless.{IsRestless}
use Rattle.mc_seq.specs.ShiftLimit.{KeepsShiftLimit}
use Rattle.mc_seq.specs.declared.fault.SettleFault.{SettleFault}
use Rattle.mc_seq.specs.declared.fault.SettleFault.TheVariants.{NoMemory, Restless, Ring, VersionEnd}
use Rattle.mc_settings.specs.Batches.{UseUp}

-- after these turns the next command of some box is the Hear of this slot, whose descriptor has the last version
pub record StopsAtLast (world : WorldState) (batch turns : List Turn) (at : ℕ) : Type 0 where
  pub last : WorldState
  pub stopped : IsStopped world batch turns last
  pub shift_limit : KeepsShiftLimit turns
  pub meets : MeetsLast batch turns last at

-- these turns use up the batch, and leave a ring, of which this slot is the least
pub record StopsOnRing (world : WorldState) (batch turns : List Turn) (at : ℕ) : Type 0 where
  pub last : WorldState
  pub stopped : IsStopped world batch turns last
  pub shift_limit : KeepsShiftLimit turns
  pub used_up : UseUp batch turns
  pub least : IsFirstOnRing last at

-- these turns use up the batch, and leave nothing under way, but the program of this box can go on, and has made all
-- its Shifts
pub record StopsUnrested (world : WorldState) (batch turns : List Turn) (at : ℕ) : Type 0 where
  pub last : WorldState
  pub stopped : IsStopped world batch turns last
  pub shift_limit : KeepsShiftLimit turns
  pub used_up : UseUp batch turns
  pub restless : IsRestless turns last at

-- why a batch isn't settled, with the turns until then and the place of the slot; want of memory says nothing of it
abbrev pub Stops : WorldState → List Turn → SettleFault → Type 0
Stops world batch (VersionEnd stop) = StopsAtLast world batch stop.turns.items stop.at × IsPlaced world stop
Stops world batch (Ring stop) = StopsOnRing world batch stop.turns.items stop.at × IsPlaced world stop
Stops world batch (Restless stop) = StopsUnrested world batch stop.turns.items stop.at
Stops world batch (NoMemory e) = Unit {0}
