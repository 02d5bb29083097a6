-- Where a settle stops.
use Rattle.std.specs.Prelude.{◌≡◌, ◌<◌, ℕ, Option, Some, None, Result, Ok, Err}
use Rattle.mc_model.specs.Worlds.{WorldState, place, slot_count}
use Rattle.mc_world.specs.declared.settled.Settled.{Settled}
use Rattle.mc_seq.specs.declared.fault.SettleFault.{SettleFault}
use Rattle.mc_seq.specs.declared.fault.SettleFault.TheVariants.{Restless, Ring, VersionEnd}
use Rattle.mc_seq.specs.declared.fault.Stopped.{Stopped}
use Rattle.mc_seq.specs.declared.fault.StoppedBox.{StoppedBox}
use Rattle.mc_seq.specs.declared.stopping.SettleStop.{SettleStop}
use Rattle.mc_seq.specs.declared.stopping.SettleStop.TheVariants as stops

-- the place is that of the slot
abbrev pub IsPlaced : WorldState → Stopped → Type 0
IsPlaced world stop = stop.place ≡ place world stop.at

-- the slot of an ending is one of the world's
abbrev pub IsInside : WorldState → Option SettleStop → Type 0
IsInside world None = Unit {0}
IsInside world (Some (stops.Ring at)) = at < slot_count world
IsInside world (Some (stops.Restless at)) = Unit {0}
IsInside world (Some (stops.VersionEnd at)) = at < slot_count world

-- what is told of a slot at which a settle stops
pub record TellsSlot (settled : Settled) (at : ℕ) (stop : Stopped) : Type 0 where
  pub at_is : stop.at ≡ at
  pub place_is : stop.place ≡ place settled.world at
  pub turns : stop.turns.items ≡ settled.turns.items

-- and of a box
pub record TellsBox (settled : Settled) (at : ℕ) (stop : StoppedBox) : Type 0 where
  pub at_is : stop.at ≡ at
  pub turns : stop.turns.items ≡ settled.turns.items

-- what a settle answers at each ending
abbrev pub Answered : Settled → Option SettleStop → Result Settled SettleFault → Type 0
Answered settled None (Ok done) = done ≡ settled
Answered settled (Some (stops.Ring at)) (Err (Ring stop)) = TellsSlot settled at stop
Answered settled (Some (stops.Restless at)) (Err (Restless stop)) = TellsBox settled at stop
Answered settled (Some (stops.VersionEnd at)) (Err (VersionEnd stop)) = TellsSlot settled at stop
Answered settled ending result = ⊥
