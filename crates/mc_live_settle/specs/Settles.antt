-- What a settle is whose commands several operators ask for while the boxes run freely, and which then settles what is
-- left.
use Rattle.std.specs.Prelude.{◌≡◌, ◌++◌, ℕ, false, List, IsTrue, Some}
use Rattle.mc_box.specs.declared.event.Turn.{Turn}
use Rattle.mc_model.specs.Paths.{has_ring}
use Rattle.mc_model.specs.Rings.{IsFirstOnRing}
use Rattle.mc_model.specs.Settles.{IsSettled, IsStopped, MeetsLast, commands_of, is_quiet}
use Rattle.mc_model.specs.Steps.{run}
use Rattle.mc_model.specs.Worlds.{WorldState}
use Rattle.mc_live_settle.specs.Orders.{IsOrderOf}
use Rattle.mc_rounds.specs.Stops.{StopsAtLast, StopsOnRing, StopsUnrested}
use Rattle.mc_seq.specs.Places.{IsPlaced}
use Rattle.mc_seq.specs.Restless.{IsFirstShifter}
use Rattle.mc_seq.specs.declared.fault.SettleFault.{SettleFault}
use Rattle.mc_seq.specs.declared.fault.SettleFault.TheVariants.{NoMemory, Restless, Ring, VersionEnd}
use Rattle.mc_seq.specs.declared.stopping.SettleStop.{SettleStop}
use Rattle.mc_seq.specs.declared.stopping.SettleStop.TheVariants as stops
use Rattle.mc_settings.specs.Batches.{UseUp}

-- turns lead from one world to another, and box by box have made the first commands of an order; these are left
pub record LeadsTo (start : WorldState) (order before left : List Turn) (world : WorldState) : Type 0 where
  pub runs : run start before ≡ Some world
  pub commands : (who : ℕ) → commands_of who before ++ commands_of who left ≡ commands_of who order

-- the turns settle an order of the batch
pub record SettlesLive (operators : ℕ) (world : WorldState) (batch turns : List Turn) (last : WorldState) : Type 0 where
  pub order : List Turn
  pub is_order : IsOrderOf operators batch order
  pub settled : IsSettled world order turns last

-- how a settle stopped, by its cause
abbrev pub StopsSo : SettleStop → WorldState → (batch turns : List Turn) → Type 0
StopsSo (stops.VersionEnd at) world batch turns = StopsAtLast world batch turns at
StopsSo (stops.Ring at) world batch turns = StopsOnRing world batch turns at
StopsSo (stops.Restless at) world batch turns = StopsUnrested world batch turns at

-- after turns that lead through an order of the batch to some world, the settle of what is left stopped there
pub record StopsLive (operators : ℕ) (world : WorldState) (batch : List Turn) (stop : SettleStop)
    (turns : List Turn) : Type 0 where
  pub order : List Turn
  pub is_order : IsOrderOf operators batch order
  pub before : List Turn
  pub left : List Turn
  pub middle : WorldState
  pub after : List Turn
  pub turns_are : turns ≡ before ++ after
  pub leads : LeadsTo world order before left middle
  pub stopped : StopsSo stop middle left after

-- why it isn't settled, with all turns until then and the place of the slot; want of memory says nothing of it
abbrev pub LiveStops : ℕ → WorldState → List Turn → SettleFault → Type 0
LiveStops operators world batch (VersionEnd stop) =
    StopsLive operators world batch (stops.VersionEnd stop.at) stop.turns.items × IsPlaced world stop
LiveStops operators world batch (Ring stop) =
    StopsLive operators world batch (stops.Ring stop.at) stop.turns.items × IsPlaced world stop
LiveStops operators world batch (Restless stop) =
    StopsLive operators world batch (stops.Restless stop.at) stop.turns.items
LiveStops operators world batch (NoMemory e) = Unit {0}

-- ---- what a stop says of all the turns

-- the program of a box can go on where nothing is under way and there is no ring; it is the first whose can
pub record IsFirstRestless (world : WorldState) (at : ℕ) : Type 0 where
  pub quiet : IsTrue (is_quiet world)
  pub no_ring : has_ring world ≡ false
  pub first : IsFirstShifter world at

-- what the cause of a stop is, over all turns: of a box that doesn't rest, how many Shifts it has made since the boxes
-- ran freely is not in it
abbrev pub HasCause : SettleStop → (order turns : List Turn) → WorldState → Type 0
HasCause (stops.VersionEnd at) order turns last = MeetsLast order turns last at
HasCause (stops.Ring at) order turns last = UseUp order turns × IsFirstOnRing last at
HasCause (stops.Restless at) order turns last = UseUp order turns × IsFirstRestless last at

-- the turns stopped within an order of the batch, with this cause
pub record StopsInOrder (operators : ℕ) (world : WorldState) (batch : List Turn) (stop : SettleStop)
    (turns : List Turn) : Type 0 where
  pub order : List Turn
  pub is_order : IsOrderOf operators batch order
  pub last : WorldState
  pub stopped : IsStopped world order turns last
  pub cause : HasCause stop order turns last
