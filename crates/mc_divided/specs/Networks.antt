-- A network that is divided into parts: the world that its parts stand for, and what it keeps between phases.
use Rattle.std.specs.Prelude.{◌≡◌, ◌⊎◌, ◌<◌, ◌≤◌, ◌*◌, ◌/◌, ℕ, All, Bool, false, not, IsTrue, List, [], drop, filter, length, map, replicate, slice_get, slice_index_or, Some}
use Rattle.std.specs.List.{AllByRecursion, range_with_len}
use Rattle.mc_box.specs.Boxes.{no_box}
use Rattle.mc_box.specs.declared.event.Event.{Event}
use Rattle.mc_box.specs.declared.event.Turn.{Turn}
use Rattle.mc_box.specs.declared.limit.TheConstants.{SLOT_LIMIT}
use Rattle.mc_part.specs.Divisions.{channels_in, home_at, is_part, layout_of, members, part_numbers, part_of, place_in}
use Rattle.mc_part.specs.DividedParts.{AreNumbersIn}
use Rattle.mc_merge.specs.Lanes.{absent_channel}
use Rattle.mc_model.specs.Paths.{has_ring}
use Rattle.mc_model.specs.Shapes.{is_allowed}
use Rattle.mc_model.specs.Sound.{IsSound}
use Rattle.mc_model.specs.Worlds.{ChannelState, WorldState, channel_number_limit}
use Rattle.mc_divided.specs.States.{NetworkState, no_shifts, no_stimuli}
use Rattle.mc_divided.specs.declared.limit.TheConstants.{NETWORK_LIMIT}
use Rattle.mc_divided.specs.declared.network.Crossing.{Crossing}
use Rattle.mc_divided.specs.declared.network.DividedNetwork.{DividedNetwork}
use Rattle.mc_part.specs.Carrying.{AllComeIn, AllGoOut, tunnel_count}
use Rattle.mc_part.specs.Parts.{IsWithin, LeadsAway, shifts_of, state_of, stimuli_of, tables_of}
use Rattle.mc_part.specs.Phases.{EachOf, IsKnown}
use Rattle.mc_part.specs.Running.{AreCalm}
use Rattle.mc_part.specs.declared.limit.TheConstants.{STAMP_LIMIT}
use Rattle.mc_part.specs.declared.part.Part.{Part}
use Rattle.mc_part.specs.declared.part_run.PartRun.{PartRun}
use Rattle.mc_part.specs.declared.port.Port.{Port}
use Rattle.mc_port.specs.Ends.{IsPair, given, received}
use Rattle.mc_merge.specs.Account.{PartState}
use Rattle.mc_merge.specs.Phases.{AreEmptied, IsLayout, Layout, stands_for}
use Rattle.mc_merge.specs.Weaving.{clocks_of, log_at, logs_of, numbers_of}
use Rattle.mc_world.specs.Parts.{FitsFrame}

-- ---- what a network stands for

abbrev pub channels_of : DividedNetwork → List ChannelState
channels_of network = network.frame.channels.items

-- a world with its channels, and as many boxes and lanes
abbrev pub base_of : DividedNetwork → WorldState
base_of network = record {
  boxes = map (λ (part : ℕ). no_box) network.assigned.items;
  channels = channels_of network;
  lanes = replicate (2 * length (channels_of network)) [];
}

abbrev pub network_layout : DividedNetwork → Layout
network_layout network = layout_of (base_of network) network.assigned.items

-- past the last part
abbrev pub no_tables : WorldState
no_tables = record { boxes = []; channels = []; lanes = [] }

abbrev pub no_part : PartState
no_part = record { boxes = []; lanes = []; stamp = 0; heard = 0 }

abbrev pub states_among : List PartRun → ℕ → PartState
states_among runs part = slice_index_or (map (λ (run : PartRun). state_of run.part) runs) part no_part

abbrev pub tables_among : List PartRun → ℕ → WorldState
tables_among runs part = slice_index_or (map (λ (run : PartRun). tables_of run.part) runs) part no_tables

abbrev pub stimuli_among : List PartRun → ℕ → ℕ → List Event
stimuli_among runs part = slice_index_or (map (λ (run : PartRun). stimuli_of run.part) runs) part no_stimuli

abbrev pub shifts_among : List PartRun → ℕ → ℕ → ℕ
shifts_among runs part = slice_index_or (map (λ (run : PartRun). shifts_of run.part) runs) part no_shifts

abbrev pub world_in : DividedNetwork → WorldState
world_in network = stands_for (base_of network) (network_layout network) (states_among network.runs.items)

abbrev pub network_state : DividedNetwork → NetworkState
network_state network = record {
  world = world_in network;
  stimuli = λ who. stimuli_among network.runs.items (home_at network.assigned.items who).0
      (home_at network.assigned.items who).1;
  shifts = λ who. shifts_among network.runs.items (home_at network.assigned.items who).0
      (home_at network.assigned.items who).1;
}

-- ---- channels that cross

-- a channel has its boxes in two parts
abbrev pub is_apart : List ℕ → List ChannelState → ℕ → Bool
is_apart assigned channels c = not (is_part
    (part_of assigned (slice_index_or channels c absent_channel).from)
    (part_of assigned (slice_index_or channels c absent_channel).to))

abbrev pub crossing_at : List ℕ → List ChannelState → ℕ → Crossing
crossing_at assigned channels c = record {
  from = part_of assigned (slice_index_or channels c absent_channel).from;
  from_port = place_in assigned channels (part_of assigned (slice_index_or channels c absent_channel).from) c;
  to = part_of assigned (slice_index_or channels c absent_channel).to;
  to_port = place_in assigned channels (part_of assigned (slice_index_or channels c absent_channel).to) c;
}

abbrev pub crossings_of : List ℕ → List ChannelState → List Crossing
crossings_of assigned channels = map (crossing_at assigned channels)
    (filter (is_apart assigned channels) (range_with_len 0 (length channels)))

-- a channel has its end in a part by this port
abbrev pub IsEnd : Crossing → ℕ → ℕ → Type 0
IsEnd crossing part port = ((crossing.from ≡ part) × (crossing.from_port ≡ port))
    ⊎ ((crossing.to ≡ part) × (crossing.to_port ≡ port))

-- one of these channels has
pub record HasCrossing (crossings : List Crossing) (part port : ℕ) : Type 0 where
  pub at : ℕ
  pub crossing : Crossing
  pub there : slice_get crossings at ≡ Some crossing
  pub end : IsEnd crossing part port

-- two parts have the ends of one ring in these ports, at which tunnels come in at the one and go out at the other
pub record AreJoined (from to : Part) (sender taker : ℕ) : Type 0 where
  pub out : Port
  pub into : Port
  pub sends : slice_get from.ports.items sender ≡ Some out
  pub takes : slice_get to.ports.items taker ≡ Some into
  pub pair : IsPair out.to into.from
  pub sender_few : sender < channel_number_limit
  pub taker_few : taker < channel_number_limit
  pub one_count : tunnel_count (tables_of from) sender ≡ tunnel_count (tables_of to) taker
  pub goes : AllGoOut (tables_of from) sender out
  pub comes : AllComeIn (tables_of to) taker into
  pub even : received into.from ≡ given out.to

-- the ends of a channel that crosses stand in these parts, and both of its rings are empty
pub record IsJoined (runs : List PartRun) (crossing : Crossing) : Type 0 where
  pub from : PartRun
  pub to : PartRun
  pub from_there : slice_get runs crossing.from ≡ Some from
  pub to_there : slice_get runs crossing.to ≡ Some to
  pub there : AreJoined from.part to.part crossing.from_port crossing.to_port
  pub back : AreJoined to.part from.part crossing.to_port crossing.from_port

-- ---- between phases

-- so many turns a part may make in a phase
abbrev pub turn_budget : ℕ → ℕ
turn_budget parts = STAMP_LIMIT / parts

-- a part is ready for the next phase
pub record IsIdle (budget : ℕ) (run : PartRun) : Type 0 where
  pub away : LeadsAway run.part
  pub within : IsWithin run.part
  pub log : run.part.log.items ≡ []
  pub stamp : run.part.stamp ≡ 0
  pub heard : run.part.heard ≡ 0
  pub room : SLOT_LIMIT * length run.part.engine.boxes ≤ budget
  pub known : IsKnown run
  -- each command that is left has a box that is there, whose shape allows it
  pub allowed : AllByRecursion (λ (turn : Turn). IsTrue (is_allowed run.part.engine turn))
      (drop run.part.used run.part.commands.items)

-- parts that are joined have one clock
abbrev pub ShareClock : List ℕ → Crossing → Type 0
ShareClock clocks crossing = slice_index_or clocks crossing.from 0 ≡ slice_index_or clocks crossing.to 0

-- what is divided as `assigned` says, and stands for a sound world
pub record IsDividedNetwork (network : DividedNetwork) : Type 0 where
  pub frame : FitsFrame network.frame (channels_of network) (length network.assigned.items)
  pub few : length network.assigned.items ≤ NETWORK_LIMIT
  pub some : 0 < length network.runs.items
  pub assigned : All (λ part. part < length network.runs.items) network.assigned.items
  pub numbers : AreNumbersIn network.assigned.items network.numbers.items
  pub logs : numbers_of network.logs.items ≡ part_numbers network.assigned.items (length network.runs.items)
  pub none_logged : (part : ℕ) → log_at (logs_of network.logs.items) part ≡ []
  pub channels : (part : ℕ) → part < length network.runs.items → (tables_among network.runs.items part).channels
      ≡ channels_in network.assigned.items (channels_of network) part
  pub boxes : (part : ℕ) → part < length network.runs.items
      → length (states_among network.runs.items part).boxes ≡ length (members network.assigned.items part)
  pub laid : IsLayout (base_of network) (network_layout network) (tables_among network.runs.items)
      (states_among network.runs.items)
  pub empty : AreEmptied (base_of network) (network_layout network) (tables_among network.runs.items)
      (states_among network.runs.items)
  pub crossings : network.crossings.items ≡ crossings_of network.assigned.items (channels_of network)
  pub joined : All (IsJoined network.runs.items) network.crossings.items
  pub ported : (part : ℕ) (run : PartRun) → slice_get network.runs.items part ≡ Some run
      → (port : ℕ) → port < length run.part.ports.items → HasCrossing network.crossings.items part port
  pub clocks : All (ShareClock (clocks_of network.logs.items)) network.crossings.items
  pub idle : EachOf (IsIdle (turn_budget (length network.runs.items))) network.runs.items
  pub calm : IsTrue network.calm → EachOf (λ (run : PartRun). AreCalm run.part) network.runs.items
  pub sound : IsSound (world_in network)
  pub free : IsTrue network.free → has_ring (world_in network) ≡ false
