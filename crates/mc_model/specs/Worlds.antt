-- A world as clauses see it: boxes, channels and lanes, and the numbers of its slots.
use Rattle.std.specs.Prelude.{ℕ, ◌+◌, ◌-◌, ◌*◌, ◌/◌, ◌%◌, ◌^◌, ◌==◌, ◌&&◌, ◌<◌, ◌≤◌, Bool, if◌then◌else◌, List, [], ◌∷◌, ◌++◌, All, length, replicate, position, slice_index_or, Option, Some, None}
use Rattle.std.specs.List.{flat_map}
use Rattle.mc_signal.specs.declared.Descriptor.{Descriptor}
use Rattle.mc_signal.specs.declared.Medium.{Medium}
use Rattle.mc_signal.specs.declared.Medium.TheVariants.{Audio}
use Rattle.mc_signal.specs.declared.Sender.{Sender}
use Rattle.mc_signal.specs.declared.Signal.{Signal}
use Rattle.mc_signal.specs.declared.Tagged.{Tagged}
use Rattle.mc_slot.specs.declared.Slot.{Slot}
use Rattle.mc_slot.specs.declared.SlotGoal.{SlotGoal}
use Rattle.mc_box.specs.Boxes.{BoxState, goal_at, media_at, no_box, own, sender, slot_at}
use Rattle.mc_model.specs.declared.channel.TheConstants.{TUNNEL_LIMIT}
use Rattle.mc_model.specs.declared.channel.Tunnel.{Tunnel}

-- a channel: the numbers of its two boxes, the initiator's first, and its tunnels
pub record ChannelState : Type 0 where
  pub from : ℕ
  pub to : ℕ
  pub tunnels : List Tunnel

-- the most channels of a world: so few that the numbers of their slots fit
abbrev pub channel_number_limit : ℕ
channel_number_limit = 2 ^ 28

-- a channel has one to eight tunnels
pub record HasTunnels (channel : ChannelState) : Type 0 where
  pub some : 0 < length channel.tunnels
  pub few : length channel.tunnels ≤ TUNNEL_LIMIT

-- channels within the limits: not too many, and each has one to eight tunnels
pub record AreChannels (channels : List ChannelState) : Type 0 where
  pub few : length channels ≤ channel_number_limit
  pub tunnels : All HasTunnels channels

-- boxes, channels, and for each channel and direction a lane of the signals under way. Lane 2k leads to the initiator's
-- end of channel k, and lane 2k + 1 to the other
pub record WorldState : Type 0 where
  pub boxes : List BoxState
  pub channels : List ChannelState
  pub lanes : List (List Tagged)

-- ---- tunnels and the numbers of slots

-- a tunnel by its channel, its number within the channel, and its medium
pub record TunnelPlace : Type 0 where
  pub channel : ℕ
  pub within : ℕ
  pub medium : Medium

-- these tunnels of a channel, numbered within it from a number on
abbrev pub tunnels_within : ℕ → ℕ → List Tunnel → List TunnelPlace
tunnels_within channel within [] = []
tunnels_within channel within (tunnel ∷ tunnels) =
    record { channel = channel; within = within; medium = tunnel.medium } ∷ tunnels_within channel (within + 1) tunnels

-- the tunnels of these channels, numbered from a number on
abbrev pub tunnels_from : ℕ → List ChannelState → List TunnelPlace
tunnels_from channel [] = []
tunnels_from channel (ends ∷ channels) = tunnels_within channel 0 ends.tunnels ++ tunnels_from (channel + 1) channels

-- all tunnels, counted over all channels in their order
abbrev pub all_tunnels : WorldState → List TunnelPlace
all_tunnels world = tunnels_from 0 world.channels

-- the box and local number of each slot of a tunnel
abbrev pub places_of : ChannelState → Tunnel → List (ℕ × ℕ)
places_of ends tunnel = (ends.from, tunnel.from) ∷ (ends.to, tunnel.to) ∷ []

abbrev pub places_within : ChannelState → List (ℕ × ℕ)
places_within ends = flat_map (places_of ends) ends.tunnels

abbrev pub places_among : List ChannelState → List (ℕ × ℕ)
places_among channels = flat_map places_within channels

-- the box and local number of each slot, by the slot's number: tunnel t has the slots 2t, on the initiator's side, and
-- 2t + 1
abbrev pub places : WorldState → List (ℕ × ℕ)
places world = places_among world.channels

abbrev pub slot_count : WorldState → ℕ
slot_count world = length (places world)

abbrev pub place : WorldState → ℕ → ℕ × ℕ
place world s = slice_index_or (places world) s (0, 0)

abbrev pub is_place : ℕ × ℕ → ℕ × ℕ → Bool
is_place p q = p.0 == q.0 && p.1 == q.1

-- the number of a box's slot
abbrev pub number : WorldState → ℕ → ℕ → Option ℕ
number world who local = position (is_place (who, local)) (places world)

-- the slot at the other end of a slot's tunnel
abbrev pub far : ℕ → ℕ
far s = if s % 2 == 0 then s + 1 else s - 1

abbrev pub no_tunnel : TunnelPlace
no_tunnel = record { channel = 0; within = 0; medium = Audio }

-- the tunnel of a slot
abbrev pub tunnel_of : WorldState → ℕ → TunnelPlace
tunnel_of world s = slice_index_or (all_tunnels world) (s / 2) no_tunnel

-- ---- what a slot has

abbrev pub box_at : WorldState → ℕ → BoxState
box_at world who = slice_index_or world.boxes who no_box

abbrev pub slot_of : WorldState → ℕ → Slot
slot_of world s = slot_at (box_at world (place world s).0) (place world s).1

abbrev pub goal_of : WorldState → ℕ → SlotGoal
goal_of world s = goal_at (box_at world (place world s).0) (place world s).1

abbrev pub own_descriptor : WorldState → ℕ → Descriptor
own_descriptor world s = own (box_at world (place world s).0) (place world s).1

-- the version of the newest descriptor of a box's slot
abbrev pub version_at : WorldState → ℕ → ℕ → ℕ
version_at world who local = (media_at (box_at world who) local).version

abbrev pub own_sender : WorldState → ℕ → Sender
own_sender world s = sender (box_at world (place world s).0) (place world s).1

-- ---- lanes

-- the lane that leads to a slot
abbrev pub lane_of : WorldState → ℕ → ℕ
lane_of world s = 2 * (tunnel_of world s).channel + s % 2

abbrev pub lane_to : WorldState → ℕ → List Tagged
lane_to world s = slice_index_or world.lanes (lane_of world s) []

-- what a lane has for one of its tunnels, in order
abbrev pub for_tunnel : ℕ → List Tagged → List Signal
for_tunnel tunnel [] = []
for_tunnel tunnel (tagged ∷ rest) =
    if tagged.tunnel == tunnel then tagged.signal ∷ for_tunnel tunnel rest else for_tunnel tunnel rest

-- the signals under way to a slot
abbrev pub list_to : WorldState → ℕ → List Signal
list_to world s = for_tunnel (tunnel_of world s).within (lane_to world s)

abbrev pub front_for : ℕ → List Tagged → Option Signal
front_for tunnel [] = None
front_for tunnel (tagged ∷ rest) = if tagged.tunnel == tunnel then Some tagged.signal else None

-- the signal that a slot can take now: the front of its lane, where that is for its tunnel
abbrev pub front : WorldState → ℕ → Option Signal
front world s = front_for (tunnel_of world s).within (lane_to world s)

-- ---- a world as new

-- nothing is under way
abbrev pub first_world : List BoxState → List ChannelState → WorldState
first_world boxes channels = record { boxes = boxes; channels = channels; lanes = replicate (2 * length channels) [] }
