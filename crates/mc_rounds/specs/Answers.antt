-- What a settle answers at its end.
use Rattle.std.specs.Prelude.{◌≡◌, ℕ, List, Option, Some, None, Result, Ok, Err}
use Rattle.std.specs.declared.alloc.Global.{Global}
use Rattle.std.specs.declared.vec.Vec.{Vec}
use Rattle.mc_box.specs.declared.event.Turn.{Turn}
use Rattle.mc_model.specs.Worlds.{WorldState, place}
use Rattle.mc_divided.specs.Networks.{world_in}
use Rattle.mc_divided.specs.declared.network.DividedNetwork.{DividedNetwork}
use Rattle.mc_seq.specs.declared.fault.SettleFault.{SettleFault}
use Rattle.mc_seq.specs.declared.fault.SettleFault.TheVariants.{Restless, Ring, VersionEnd}
use Rattle.mc_seq.specs.declared.fault.Stopped.{Stopped}
use Rattle.mc_seq.specs.declared.fault.StoppedBox.{StoppedBox}
use Rattle.mc_seq.specs.declared.stopping.SettleStop.{SettleStop}
use Rattle.mc_seq.specs.declared.stopping.SettleStop.TheVariants as stops

-- what is told of a slot of this world at which a settle stops
pub record TellsSlot (world : WorldState) (turns : List Turn) (at : ℕ) (stop : Stopped) : Type 0 where
  pub at_is : stop.at ≡ at
  pub place_is : stop.place ≡ place world at
  pub turns_are : stop.turns.items ≡ turns

-- and of a box
pub record TellsBox (turns : List Turn) (at : ℕ) (stop : StoppedBox) : Type 0 where
  pub at_is : stop.at ≡ at
  pub turns_are : stop.turns.items ≡ turns

-- what a settle answers at each ending
abbrev pub Answered : DividedNetwork → Vec Turn Global → Option SettleStop
    → Result (DividedNetwork × Vec Turn Global) SettleFault → Type 0
Answered network turns None (Ok done) = done ≡ (network, turns)
Answered network turns (Some (stops.Ring at)) (Err (Ring stop)) = TellsSlot (world_in network) turns.items at stop
Answered network turns (Some (stops.Restless at)) (Err (Restless stop)) = TellsBox turns.items at stop
Answered network turns (Some (stops.VersionEnd at)) (Err (VersionEnd stop)) =
    TellsSlot (world_in network) turns.items at stop
Answered network turns ending result = ⊥
