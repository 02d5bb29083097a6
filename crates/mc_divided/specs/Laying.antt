-- How a world is laid out in parts.
use Rattle.std.specs.Prelude.{◌≡◌, ◌<◌, ◌≤◌, ◌+◌, ◌-◌, ◌*◌, ◌^◌, ◌==◌, if◌then◌else◌, ℕ, All, Bool, false, true, filter, List, [], ◌∷◌, ◌++◌, IsTrue, length, map, min, slice_get, slice_index_or, Some, take}
use Rattle.std.specs.List.{range_with_len}
use Rattle.mc_box.specs.Boxes.{BoxState, no_box}
use Rattle.mc_box.specs.declared.limit.TheConstants.{SLOT_LIMIT}
use Rattle.mc_part.specs.Divisions.{channels_in, is_crossing, is_inner, is_part, members, part_of, starts_in}
use Rattle.mc_part.specs.DividedParts.{AreNumbersIn, count_of, inner_lists, with_given}
use Rattle.mc_merge.specs.Lanes.{absent_channel}
use Rattle.mc_model.specs.Sound.{IsNumbered}
use Rattle.mc_model.specs.Worlds.{AreChannels, ChannelState, WorldState, first_world, places_among}
use Rattle.mc_divided.specs.Networks.{HasCrossing, crossing_at, is_apart, turn_budget}
use Rattle.mc_divided.specs.declared.dividing.Division.{Division}
use Rattle.mc_divided.specs.declared.limit.TheConstants.{NETWORK_LIMIT}
use Rattle.mc_divided.specs.declared.network.Crossing.{Crossing}
use Rattle.mc_divided.specs.declared.wiring.Wiring.{Wiring}
use Rattle.mc_part.specs.Carrying.{AreFor}
use Rattle.mc_part.specs.Ports.{sides}
use Rattle.mc_part.specs.declared.limit.TheConstants.{STAMP_LIMIT}
use Rattle.mc_part.specs.Phases.{IsKnown}
use Rattle.mc_part.specs.declared.part_run.PartRun.{PartRun}
use Rattle.mc_part.specs.declared.port.Port.{Port}
use Rattle.mc_port.specs.Ends.{IsPair, given, received}
use Rattle.mc_signal.specs.declared.Tagged.{Tagged}
use Rattle.mc_world.specs.Pieces.{IsPiece}
use Rattle.mc_world.specs.Pumping.{is_slot_at}

-- ---- boxes

-- each box is in one of so many parts, in each of which all retries fit into a phase, and has a number there
pub record IsDivision (division : Division) : Type 0 where
  pub some : 0 < division.count
  pub few : division.count ≤ STAMP_LIMIT
  pub parts : All (λ part. part < division.count) division.assigned.items
  pub room : (part : ℕ) → part < division.count
      → SLOT_LIMIT * count_of division.assigned.items part ≤ turn_budget division.count
  pub numbers : AreNumbersIn division.assigned.items division.numbers.items

-- ---- slots

-- the number of the first slot of each channel
abbrev pub first_slot : List ChannelState → ℕ → ℕ
first_slot channels c = length (places_among (take c channels))

abbrev pub first_slots : List ChannelState → List ℕ
first_slots channels = map (first_slot channels) (range_with_len 0 (length channels))

-- the slot of a tunnel, where the first tunnel has this one
abbrev pub slot_after : ℕ → ℕ → ℕ
slot_after first tunnel = min (first + 2 * tunnel) (2 ^ 32 - 1)

-- a lane leads to so many slots, of which the first is this one
abbrev pub LeadsTo : WorldState → (lane count first : ℕ) → Type 0
LeadsTo tables lane count first = (tunnel : ℕ) → tunnel < count
    → IsTrue (is_slot_at tables lane tunnel (slot_after first tunnel))

-- ---- lanes

-- the channel with this number is of a kind
abbrev pub is_kind : (ChannelState → Bool) → List ChannelState → ℕ → Bool
is_kind kind channels c = kind (slice_index_or channels c absent_channel)

-- one of its boxes is in the part, or both are
abbrev pub kind_of : List ℕ → (part : ℕ) → (crossing : Bool) → ChannelState → Bool
kind_of assigned part crossing = if crossing then is_crossing assigned part else is_inner assigned part

-- the numbers of those of the first channels that are of a kind
abbrev pub numbers_of_kind : (ChannelState → Bool) → List ChannelState → ℕ → List ℕ
numbers_of_kind kind channels n = filter (is_kind kind channels) (range_with_len 0 n)

-- the numbers in the network of the channels of a part
abbrev pub channel_numbers : List ℕ → List ChannelState → ℕ → List ℕ
channel_numbers assigned channels part = numbers_of_kind (kind_of assigned part true) channels (length channels)
    ++ numbers_of_kind (kind_of assigned part false) channels (length channels)

-- the box at the end of a channel to which lane 2c, or the next one, leads
abbrev pub end_of : ℕ → ChannelState → ℕ
end_of side channel = if side == 0 then channel.from else channel.to

-- a lane of a channel leads to a box of the part
abbrev pub comes_here : List ℕ → List ChannelState → (part c side : ℕ) → Bool
comes_here assigned channels part c side = is_part part
    (part_of assigned (end_of side (slice_index_or channels c absent_channel)))

-- what is under way on a lane of a channel to a box of the part
abbrev pub lane_here : List ℕ → List ChannelState → List (List Tagged) → (part c side : ℕ) → List Tagged
lane_here assigned channels lanes part c side = if comes_here assigned channels part c side
    then slice_index_or lanes (2 * c + side) [] else []

-- the lanes of the first channels of these numbers have that, and all others nothing
pub record AreFilled (assigned : List ℕ) (channels : List ChannelState) (lanes : List (List Tagged)) (part : ℕ)
    (numbers : List ℕ) (count : ℕ) (filled : List (List Tagged)) : Type 0 where
  pub first : (place side : ℕ) → place < count → side < 2 → slice_index_or filled (2 * place + side) []
      ≡ lane_here assigned channels lanes part (slice_index_or numbers place 0) side
  pub rest : (lane : ℕ) → 2 * count ≤ lane → slice_index_or filled lane [] ≡ []

-- what is under way on each lane is for tunnels of its channel
abbrev pub AllFit : List ChannelState → List (List Tagged) → Type 0
AllFit channels lanes = (c side : ℕ) → c < length channels → side < 2
    → AreFor (length (slice_index_or channels c absent_channel).tunnels) (slice_index_or lanes (2 * c + side) [])

-- ---- ports

abbrev pub ports_in : List (List Port) → ℕ → List Port
ports_in ports part = slice_index_or ports part []

-- both rings between two ports are empty
pub record AreRinged (a b : Port) : Type 0 where
  pub there : IsPair a.to b.from
  pub back : IsPair b.to a.from
  pub even : received b.from ≡ given a.to
  pub even_back : received a.from ≡ given b.to

-- so are those of a channel that crosses
pub record IsRinged (ports : List (List Port)) (crossing : Crossing) : Type 0 where
  pub from : Port
  pub to : Port
  pub from_there : slice_get (ports_in ports crossing.from) crossing.from_port ≡ Some from
  pub to_there : slice_get (ports_in ports crossing.to) crossing.to_port ≡ Some to
  pub rings : AreRinged from to

-- a port more for a part
abbrev pub with_port : List (List Port) → ℕ → Port → List (List Port)
with_port ports part port = with_given ports part port

-- a channel from one part to another has got its ports
pub record AddsCrossing (from to : ℕ) (old new : Wiring) : Type 0 where
  pub a : Port
  pub b : Port
  pub starts : a.starts_here ≡ true
  pub ends : b.starts_here ≡ false
  pub rings : AreRinged a b
  pub ports_are : inner_lists new.ports.items ≡ with_port (with_port (inner_lists old.ports.items) from a) to b
  pub crossings_are : new.crossings.items ≡ old.crossings.items ++ record {
    from = from;
    from_port = length (ports_in (inner_lists old.ports.items) from);
    to = to;
    to_port = length (ports_in (with_port (inner_lists old.ports.items) from a) to);
  } ∷ []

-- or none was needed
pub record AddsNone (old new : Wiring) : Type 0 where
  pub ports_are : inner_lists new.ports.items ≡ inner_lists old.ports.items
  pub crossings_are : new.crossings.items ≡ old.crossings.items

abbrev pub AddsBy : Bool → ℕ → ℕ → Wiring → Wiring → Type 0
AddsBy true from to old new = AddsNone old new
AddsBy false from to old new = AddsCrossing from to old new

-- each of the first channels that crosses has its ports, and there are no others
pub record AreWired (assigned : List ℕ) (channels : List ChannelState) (count n : ℕ)
    (ports : List (List Port)) (crossings : List Crossing) : Type 0 where
  pub count_is : length ports ≡ count
  pub sides_are : (part : ℕ) → part < count
      → sides (ports_in ports part) ≡ starts_in assigned (take n channels) part
  pub crossings_are : crossings ≡ map (crossing_at assigned channels)
      (filter (is_apart assigned channels) (range_with_len 0 n))
  pub ringed : All (IsRinged ports) crossings
  pub ported : (part port : ℕ) → port < length (ports_in ports part) → HasCrossing crossings part port

-- a port by its number in its part
abbrev pub numbered_port : ℕ → List ℕ → ℕ → Port → Port
numbered_port boxes firsts c port = record port {
  holder = boxes + c;
  first = slice_index_or firsts c 0 + (if port.starts_here then 0 else 1);
}

-- each port has its numbers
pub record AreNumbered (boxes : ℕ) (firsts : List ℕ) (old new : List Port) : Type 0 where
  pub count : length new ≡ length old
  pub each : (c : ℕ) (port : Port) → slice_get old c ≡ Some port
      → slice_get new c ≡ Some (numbered_port boxes firsts c port)

-- ---- parts

-- nothing was made, and no command is left
pub record IsFresh (run : PartRun) : Type 0 where
  pub log : run.part.log.items ≡ []
  pub stamp : run.part.stamp ≡ 0
  pub heard : run.part.heard ≡ 0
  pub commands : run.part.commands.items ≡ []
  pub counts : length run.part.shifts.items ≡ length run.part.engine.boxes
  pub shifts : (who : ℕ) → slice_index_or run.part.shifts.items who 0 ≡ 0
  pub known : IsKnown run

-- a part as it is laid out of these boxes, with these ports
pub record IsLaid (assigned : List ℕ) (channels : List ChannelState) (lanes : List (List Tagged)) (part : ℕ)
    (boxes : List BoxState) (ports : List Port) (run : PartRun) : Type 0 where
  pub boxes_are : run.part.engine.boxes ≡ boxes
  pub channels_are : run.part.engine.channels ≡ channels_in assigned channels part
  pub lane_count : length run.part.engine.lanes ≡ 2 * length (channels_in assigned channels part)
  pub lanes_are : AreFilled assigned channels lanes part (channel_numbers assigned channels part)
      (length (channel_numbers assigned channels part)) run.part.engine.lanes
  pub ports_are : AreNumbered (length boxes) (first_slots (channels_in assigned channels part)) ports
      run.part.ports.items
  pub fresh : IsFresh run

-- each of so many parts is laid out of its boxes
pub record AreLaid (assigned : List ℕ) (channels : List ChannelState) (lanes : List (List Tagged))
    (boxes : ℕ → List BoxState) (ports : List (List Port)) (count : ℕ) (runs : List PartRun) : Type 0 where
  pub count_is : length runs ≡ count
  pub each : (part : ℕ) (run : PartRun) → slice_get runs part ≡ Some run
      → IsLaid assigned channels lanes part (boxes part) (ports_in ports part) run

-- the boxes, channels and ports of a part fit each other
pub record FitTogether (assigned : List ℕ) (channels : List ChannelState) (part : ℕ) (boxes : List BoxState)
    (ports : List Port) : Type 0 where
  pub own : length boxes ≡ length (members assigned part)
  pub few : length boxes ≤ NETWORK_LIMIT
  pub divided : IsPiece boxes (channels_in assigned channels part) (length boxes + length ports)
  pub sides_are : sides ports ≡ starts_in assigned channels part

-- boxes, channels and lanes as those of a sound world
pub record AreWhole (boxes : List BoxState) (channels : List ChannelState) (lanes : List (List Tagged)) : Type 0 where
  pub channels_are : AreChannels channels
  pub numbered : IsNumbered (first_world boxes channels)
  pub slots : (who : ℕ) → who < length boxes → length (slice_index_or boxes who no_box).slots ≤ SLOT_LIMIT
  pub fit : AllFit channels lanes
