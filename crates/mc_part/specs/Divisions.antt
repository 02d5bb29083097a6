-- A network divided into parts, by the part that each box is assigned to.
use Rattle.std.specs.Prelude.{◌≡◌, Bool, not, if◌then◌else◌, filter, ℕ, ◌==◌, ◌&&◌, ◌+◌, ◌*◌, ◌/◌, ◌%◌, List, [], ◌∷◌, ◌++◌, length, map, replicate, slice_index_or, take}
use Rattle.std.specs.List.{range_with_len}
use Rattle.mc_box.specs.Boxes.{BoxState}
use Rattle.mc_merge.specs.Lanes.{absent_channel, leads_from, leads_to}
use Rattle.mc_model.specs.Worlds.{ChannelState, WorldState, box_at, first_world}
use Rattle.mc_model.specs.declared.channel.Tunnel.{Tunnel}
use Rattle.mc_merge.specs.Account.{PartState}
use Rattle.mc_merge.specs.Phases.{Layout}
use Rattle.mc_merge.specs.Together.{Homes}

-- how many of the first so many pass a test
abbrev pub rank : {A : Type 0} → (A → Bool) → ℕ → List A → ℕ
rank {A} test count xs = length (filter test (take count xs))

-- ---- boxes

-- the part that a box is assigned to
abbrev pub part_of : List ℕ → ℕ → ℕ
part_of assigned who = slice_index_or assigned who 0

abbrev pub is_part : ℕ → ℕ → Bool
is_part part other = other == part

-- where a box stands: its part, and how many boxes before it are in that part
abbrev pub home_at : List ℕ → Homes
home_at assigned who = (part_of assigned who, rank (is_part (part_of assigned who)) who assigned)

-- the numbers of the boxes that are assigned to a part, where the first box has this number
abbrev pub members_from : ℕ → ℕ → List ℕ → List ℕ
members_from part first [] = []
members_from part first (other ∷ assigned) = if is_part part other then first ∷ members_from part (first + 1) assigned
    else members_from part (first + 1) assigned

-- the world's number of each box of a part
abbrev pub members : List ℕ → ℕ → List ℕ
members assigned part = members_from part 0 assigned

abbrev pub boxes_in : WorldState → List ℕ → ℕ → List BoxState
boxes_in world assigned part = map (box_at world) (members assigned part)

-- the numbers of each of so many parts
abbrev pub part_numbers : List ℕ → ℕ → List (List ℕ)
part_numbers assigned count = map (members assigned) (range_with_len 0 count)

-- ---- channels

-- a channel has one of its boxes in a part
abbrev pub is_crossing : List ℕ → ℕ → ChannelState → Bool
is_crossing assigned part channel = if is_part part (part_of assigned channel.from)
    then not (is_part part (part_of assigned channel.to)) else is_part part (part_of assigned channel.to)

-- it has both
abbrev pub is_inner : List ℕ → ℕ → ChannelState → Bool
is_inner assigned part channel = is_part part (part_of assigned channel.from)
    && is_part part (part_of assigned channel.to)

-- the channels that touch a part, as the world has them: first those that cross
abbrev pub touching : List ℕ → List ChannelState → ℕ → List ChannelState
touching assigned channels part = filter (is_crossing assigned part) channels
    ++ filter (is_inner assigned part) channels

-- a tunnel of a channel, with its number within the channel for the local number at an end that isn't here
abbrev pub tunnel_in : (from_here to_here : Bool) → ℕ → Tunnel → Tunnel
tunnel_in from_here to_here within tunnel = record {
  medium = tunnel.medium;
  from = if from_here then tunnel.from else within;
  to = if to_here then tunnel.to else within;
}

-- these tunnels, numbered from a number on
abbrev pub tunnels_in : (from_here to_here : Bool) → ℕ → List Tunnel → List Tunnel
tunnels_in from_here to_here within [] = []
tunnels_in from_here to_here within (tunnel ∷ tunnels) = tunnel_in from_here to_here within tunnel
    ∷ tunnels_in from_here to_here (within + 1) tunnels

-- a channel as a part has it: a box that is here by its number here, and in the place of one that isn't a place holder
abbrev pub channel_in : List ℕ → ℕ → ℕ → ChannelState → ChannelState
channel_in assigned part holder channel = record {
  from = if is_part part (part_of assigned channel.from) then (home_at assigned channel.from).1 else holder;
  to = if is_part part (part_of assigned channel.to) then (home_at assigned channel.to).1 else holder;
  tunnels = tunnels_in (is_part part (part_of assigned channel.from)) (is_part part (part_of assigned channel.to)) 0
      channel.tunnels;
}

-- these channels, whose place holders are numbered from a number on
abbrev pub channels_from : List ℕ → ℕ → ℕ → List ChannelState → List ChannelState
channels_from assigned part holder [] = []
channels_from assigned part holder (channel ∷ channels) = channel_in assigned part holder channel
    ∷ channels_from assigned part (holder + 1) channels

-- a part's channels: that with the number k has the place holder k past the last box, where it crosses
abbrev pub channels_in : List ℕ → List ChannelState → ℕ → List ChannelState
channels_in assigned channels part = channels_from assigned part (length (members assigned part))
    (touching assigned channels part)

-- the number in a part of a channel of the world
abbrev pub place_in : List ℕ → List ChannelState → ℕ → ℕ → ℕ
place_in assigned channels part c = if is_crossing assigned part (slice_index_or channels c absent_channel)
    then rank (is_crossing assigned part) c channels
    else length (filter (is_crossing assigned part) channels) + rank (is_inner assigned part) c channels

-- whether the initiator of each channel that crosses is here
abbrev pub starts_in : List ℕ → List ChannelState → ℕ → List Bool
starts_in assigned channels part = map (λ (channel : ChannelState). is_part part (part_of assigned channel.from))
    (filter (is_crossing assigned part) channels)

-- ---- lanes

-- a lane of the world, by its number in a part
abbrev pub lane_at : List ℕ → List ChannelState → ℕ → ℕ → ℕ
lane_at assigned channels part lane = 2 * place_in assigned channels part (lane / 2) + lane % 2

abbrev pub layout_of : WorldState → List ℕ → Layout
layout_of world assigned = record {
  homes = home_at assigned;
  senders = λ lane. (
    part_of assigned (leads_from world lane),
    lane_at assigned world.channels (part_of assigned (leads_from world lane)) lane,
  );
  takers = λ lane. (
    part_of assigned (leads_to world lane),
    lane_at assigned world.channels (part_of assigned (leads_to world lane)) lane,
  );
}

-- ---- parts

abbrev pub tables_in : WorldState → List ℕ → ℕ → WorldState
tables_in world assigned part = first_world (boxes_in world assigned part) (channels_in assigned world.channels part)

-- a part with nothing under way
abbrev pub first_part : WorldState → List ℕ → ℕ → PartState
first_part world assigned part = record {
  boxes = boxes_in world assigned part;
  lanes = replicate (2 * length (channels_in assigned world.channels part)) [];
  stamp = 0;
  heard = 0;
}

-- parts with these tables, in these states, are what a world at rest is divided into
pub record IsDivided (world : WorldState) (assigned : List ℕ) (tables : ℕ → WorldState)
    (states : ℕ → PartState) : Type 0 where
  pub each : length assigned ≡ length world.boxes
  pub channels : (part : ℕ) → (tables part).channels ≡ channels_in assigned world.channels part
  pub boxes : (part : ℕ) → (states part).boxes ≡ boxes_in world assigned part
  pub lanes : (part : ℕ) → (states part).lanes ≡ replicate (2 * length (channels_in assigned world.channels part)) []
