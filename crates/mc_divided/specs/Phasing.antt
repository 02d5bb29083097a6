-- A phase, step by step: which parts run, what is carried over, and what becomes of their logs.
use Rattle.std.specs.Prelude.{◌≡◌, ◌≢◌, ◌⊎◌, ◌<◌, ◌≤◌, ◌/◌, ◌++◌, ℕ, Bool, false, true, IsTrue, List, [], length, map, slice_get, Option, Some, None, Result, Ok, Err}
use mathlib.Core.List.{IsPrefix}
use Rattle.mc_box.specs.declared.event.Turn.{Turn}
use Rattle.mc_merge.specs.LaneLogs.{without_stamps}
use Rattle.mc_divided.specs.Networks.{IsDividedNetwork, IsEnd, turn_budget}
use Rattle.mc_divided.specs.declared.network.Crossing.{Crossing}
use Rattle.mc_divided.specs.declared.network.DividedNetwork.{DividedNetwork}
use Rattle.mc_part.specs.Carrying.{CanCarry, lane_at, waiting_at}
use Rattle.mc_part.specs.Parts.{state_of}
use Rattle.mc_part.specs.Phases.{EachChanged, EachOf, HaveGone}
use Rattle.mc_part.specs.Ports.{rings_of, sides}
use Rattle.mc_part.specs.Running.{NoneLeft, NothingWaits}
use Rattle.mc_part.specs.declared.part.Part.{Part}
use Rattle.mc_part.specs.declared.part_run.PartRun.{PartRun}
use Rattle.mc_part.specs.declared.port.Port.{Port}
use Rattle.mc_part.specs.declared.stop.Ended.{Ended}
use Rattle.mc_part.specs.declared.stop.PartStop.{PartStop}
use Rattle.mc_part.specs.declared.stop.PartStop.TheVariants.{NoMemory, Spent, Strange, Stray, Unable, VersionEnd}
use Rattle.mc_port.specs.Ends.{given, known, received}
use Rattle.mc_port.specs.declared.stamped.Stamped.{Stamped}
use Rattle.mc_merge.specs.Account.{part_lane}
use Rattle.mc_merge.specs.Weaving.{AreWoven, clock_at, clocks_of, log_at, logs_of, numbers_of, turn_in}
use Rattle.mc_merge.specs.Wholes.{numbers_in}
use Rattle.mc_merge.specs.declared.log.Made.{Made}
use Rattle.mc_merge.specs.declared.log.PartLog.{PartLog}

-- ---- which parts run

-- nothing is to be done in a part by itself, and not each of its boxes is to be tried
pub record HasNothing (every : Bool) (part : Part) : Type 0 where
  pub some : every ≡ false
  pub left : NoneLeft part
  pub waits : NothingWaits part

-- a part is to run, or has nothing to do
pub record IsChosen (every : Bool) (a b : PartRun) : Type 0 where
  pub part : b.part ≡ a.part
  pub ended : b.ended ≡ None
  pub known : b.known ≡ a.known
  pub idle : b.active ≡ false → HasNothing every b.part

abbrev pub AreChosen : Bool → List PartRun → List PartRun → Type 0
AreChosen every old new = EachChanged (IsChosen every) old new

-- a part that was to run is, and maybe one more
pub record WakesUp (a b : PartRun) : Type 0 where
  pub part : b.part ≡ a.part
  pub ended : b.ended ≡ a.ended
  pub known : b.known ≡ a.known
  pub active : b.active ≡ false → a.active ≡ false

-- ---- what is carried over

-- each channel leads from one part to another, and two have no end in common
pub record AreApart (crossings : List Crossing) : Type 0 where
  pub others : (i : ℕ) (crossing : Crossing) → slice_get crossings i ≡ Some crossing → crossing.from ≢ crossing.to
  pub once : (i j : ℕ) (one two : Crossing) (part port : ℕ) → slice_get crossings i ≡ Some one
      → slice_get crossings j ≡ Some two → IsEnd one part port → IsEnd two part port → i ≡ j

-- both lanes of a channel can be carried over
pub record IsCarryable (runs : List PartRun) (crossing : Crossing) : Type 0 where
  pub from : PartRun
  pub to : PartRun
  pub from_there : slice_get runs crossing.from ≡ Some from
  pub to_there : slice_get runs crossing.to ≡ Some to
  pub there : CanCarry from.part to.part crossing.from_port crossing.to_port
  pub back : CanCarry to.part from.part crossing.to_port crossing.from_port

-- what is left in the ring of a lane, and then what waits before it, goes to the end of the lane beyond; the taking end
-- knew of a beginning of what was left
pub record IsLaneCarried (from from_2 to to_2 : Part) (sender taker : ℕ) : Type 0 where
  pub out : Port
  pub into : Port
  pub out_2 : Port
  pub into_2 : Port
  pub sends : slice_get from.ports.items sender ≡ Some out
  pub takes : slice_get to.ports.items taker ≡ Some into
  pub sends_2 : slice_get from_2.ports.items sender ≡ Some out_2
  pub takes_2 : slice_get to_2.ports.items taker ≡ Some into_2
  pub left : List Stamped
  pub all : received into.from ++ left ≡ given out.to
  pub knew : IsPrefix (known into.from) left
  pub came : lane_at to_2 taker into ≡ lane_at to taker into ++ (without_stamps left ++ waiting_at from sender out)
  pub empty : waiting_at from_2 sender out ≡ []
  pub even : received into_2.from ≡ given out_2.to

-- of a part nothing changes but what is under way on lanes that cross
pub record IsAsBefore (a b : Part) : Type 0 where
  pub boxes : b.engine.boxes ≡ a.engine.boxes
  pub channels : b.engine.channels ≡ a.engine.channels
  pub lane_count : length b.engine.lanes ≡ length a.engine.lanes
  pub sides_are : sides b.ports.items ≡ sides a.ports.items
  pub rings_are : map rings_of b.ports.items ≡ map rings_of a.ports.items
  pub kept : b ≡ record a { engine = b.engine; ports = b.ports }

-- nothing changes at a port, and on the lanes of its channel
pub record IsSameAt (a b : Part) (port : ℕ) : Type 0 where
  pub port_is : slice_get b.ports.items port ≡ slice_get a.ports.items port
  pub lanes : (lane : ℕ) → lane / 2 ≡ port → part_lane (state_of b) lane ≡ part_lane (state_of a) lane

-- of a run nothing changes but its part, and of that only what is under way
pub record IsSameRun (a b : PartRun) : Type 0 where
  pub part : IsAsBefore a.part b.part
  pub active : b.active ≡ a.active
  pub ended : b.ended ≡ a.ended
  pub known : b.known ≡ a.known

-- both lanes of a channel are carried over between two parts, and nothing else changes
pub record CarriesBoth (from from_2 to to_2 : PartRun) (from_port to_port : ℕ) : Type 0 where
  pub there : IsLaneCarried from.part from_2.part to.part to_2.part from_port to_port
  pub back : IsLaneCarried to.part to_2.part from.part from_2.part to_port from_port
  pub from_same : IsSameRun from from_2
  pub to_same : IsSameRun to to_2
  pub from_others : (port : ℕ) → port ≢ from_port → IsSameAt from.part from_2.part port
  pub to_others : (port : ℕ) → port ≢ to_port → IsSameAt to.part to_2.part port

-- the same in a list of parts
pub record HasCrossed (old new : List PartRun) (crossing : Crossing) : Type 0 where
  pub from : PartRun
  pub to : PartRun
  pub from_2 : PartRun
  pub to_2 : PartRun
  pub from_there : slice_get old crossing.from ≡ Some from
  pub to_there : slice_get old crossing.to ≡ Some to
  pub from_there_2 : slice_get new crossing.from ≡ Some from_2
  pub to_there_2 : slice_get new crossing.to ≡ Some to_2
  pub there : IsLaneCarried from.part from_2.part to.part to_2.part crossing.from_port crossing.to_port
  pub back : IsLaneCarried to.part to_2.part from.part from_2.part crossing.to_port crossing.from_port

-- at a port of a part nothing changes
abbrev pub StaysAt : List PartRun → List PartRun → ℕ → ℕ → Type 0
StaysAt old new part port = (a b : PartRun) → slice_get old part ≡ Some a → slice_get new part ≡ Some b
    → IsSameAt a.part b.part port

-- one channel is carried over, and all else stays
pub record CarriesAt (old new : List PartRun) (crossing : Crossing) : Type 0 where
  pub same : EachChanged IsSameRun old new
  pub crossed : HasCrossed old new crossing
  pub others : (part port : ℕ) → (IsEnd crossing part port → ⊥) → StaysAt old new part port

-- no channel has its end there
abbrev pub IsNoEnd : List Crossing → ℕ → ℕ → Type 0
IsNoEnd crossings part port = (i : ℕ) (crossing : Crossing) → slice_get crossings i ≡ Some crossing
    → IsEnd crossing part port → ⊥

-- all channels that cross are carried over, and all else stays
pub record CarriesOver (crossings : List Crossing) (old new : List PartRun) : Type 0 where
  pub same : EachChanged IsSameRun old new
  pub crossed : (i : ℕ) (crossing : Crossing) → slice_get crossings i ≡ Some crossing → HasCrossed old new crossing
  pub others : (part port : ℕ) → IsNoEnd crossings part port → StaysAt old new part port

-- ---- logs

abbrev pub logs_in : List PartRun → List (List Made)
logs_in runs = map (λ (run : PartRun). run.part.log.items) runs

-- the log of a part is emptied, and its stamps begin again
pub record IsClosed (a b : PartRun) : Type 0 where
  pub log : b.part.log.items ≡ []
  pub kept : b ≡ record a { part = record a.part { log = b.part.log; stamp = 0; heard = 0 } }

-- the logs of parts are merged, and empty then
pub record HaveMerged (old new : List PartRun) (logs logs_2 : List PartLog) (before after : List Turn) : Type 0 where
  pub woven : List (ℕ × Made)
  pub are : AreWoven (clock_at (clocks_of logs)) (logs_in old) woven
  pub added : after ≡ before ++ map (turn_in (numbers_of logs)) woven
  pub closed : EachChanged IsClosed old new
  pub numbers : numbers_of logs_2 ≡ numbers_of logs
  pub clocks : clocks_of logs_2 ≡ clocks_of logs
  pub empty : (part : ℕ) → log_at (logs_of logs_2) part ≡ []

-- ---- ends

-- its run ended by itself, or at the limit of turns, or didn't begin
abbrev pub EndsWell : Option (Result Ended PartStop) → Type 0
EndsWell None = Unit {0}
EndsWell (Some (Ok ended)) = Unit {0}
EndsWell (Some (Err Spent)) = Unit {0}
EndsWell (Some (Err stop)) = ⊥

-- there was memory
abbrev pub HasMemory : Option (Result Ended PartStop) → Type 0
HasMemory None = Unit {0}
HasMemory (Some (Ok ended)) = Unit {0}
HasMemory (Some (Err (NoMemory e))) = ⊥
HasMemory (Some (Err stop)) = Unit {0}

-- it didn't stop at what can't come in a sound network: a command that can't happen, a signal that its slot must not
-- take, or an item that its port shouldn't carry
abbrev pub EndsLawfully : Option (Result Ended PartStop) → Type 0
EndsLawfully (Some (Err (Unable who))) = ⊥
EndsLawfully (Some (Err (Strange who local))) = ⊥
EndsLawfully (Some (Err (Stray port))) = ⊥
EndsLawfully ended = Unit {0}

-- its run stopped at a last version
abbrev pub StopIs : Option (Result Ended PartStop) → Option (ℕ × ℕ) → Type 0
StopIs ended None = EndsWell ended
StopIs ended (Some at) = ended ≡ Some (Err (VersionEnd at.0 at.1))

-- a part stopped at a last version, at this box and slot by the network's numbers
pub record StopsAtLast (numbers : List (List ℕ)) (runs : List PartRun) (at : ℕ × ℕ) : Type 0 where
  pub part : ℕ
  pub run : PartRun
  pub who : ℕ
  pub there : slice_get runs part ≡ Some run
  pub ended : run.ended ≡ Some (Err (VersionEnd who at.1))
  pub is : at.0 ≡ numbers_in numbers part who

-- or none stopped
abbrev pub EndAs : List (List ℕ) → List PartRun → Option (ℕ × ℕ) → Type 0
EndAs numbers runs None = EachOf (λ (run : PartRun). EndsWell run.ended) runs
EndAs numbers runs (Some at) = StopsAtLast numbers runs at

-- its run ended by itself, or it had nothing to do where all were calm
abbrev pub EndsCalm : Bool → Option (Result Ended PartStop) → Type 0
EndsCalm calm None = calm ≡ true
EndsCalm calm (Some (Ok ended)) = Unit {0}
EndsCalm calm (Some (Err stop)) = ⊥

-- ---- all of it

-- the parts, logs and channels that cross of a network that is divided as it should be
pub record AreOf (calm : Bool) (crossings : List Crossing) (runs : List PartRun) (logs : List PartLog) : Type 0 where
  pub network : DividedNetwork
  pub divided : IsDividedNetwork network
  pub calm_is : network.calm ≡ calm
  pub crossings_are : network.crossings.items ≡ crossings
  pub runs_are : network.runs.items ≡ runs
  pub logs_are : network.logs.items ≡ logs

-- what a phase did with them: these parts were chosen, ran, and were carried over
pub record HasPlayed (retries calm : Bool) (crossings : List Crossing) (old new : List PartRun)
    (logs logs_2 : List PartLog) (before after : List Turn) : Type 0 where
  pub every : Bool
  pub budget : ℕ
  pub chosen : List PartRun
  pub gone : List PartRun
  pub carried : List PartRun
  pub asked : IsTrue retries → IsTrue every
  pub was_calm : every ≡ false → calm ≡ true
  pub few : budget ≤ turn_budget (length old)
  pub some : 0 < turn_budget (length old) → 0 < budget
  pub chose : AreChosen every old chosen
  pub went : HaveGone retries budget chosen gone
  pub memory : EachOf (λ (run : PartRun). HasMemory run.ended) gone
  pub over : CarriesOver crossings gone carried
  pub merged : HaveMerged carried new logs logs_2 before after
