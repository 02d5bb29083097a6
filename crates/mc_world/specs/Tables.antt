-- What a world keeps: the tables beside its boxes and channels, and that it is sound.
use Rattle.std.specs.Prelude.{◌≡◌, ℕ, List, [], None, true, ◌*◌, ◌^◌, ◌≤◌, length, map, position}
use Rattle.std.specs.List.{slice_get}
use Rattle.mc_world.specs.Lanes.{numbers_of, signals_of}
use Rattle.mc_world.specs.Waiting.{IsWaiting}
use Rattle.mc_model.specs.Rings.{IsLeastOnRing}
use Rattle.mc_model.specs.Sound.{IsSound}
use Rattle.mc_model.specs.Worlds.{AreChannels, ChannelState, TunnelPlace, WorldState, is_place, tunnels_from, tunnels_within, places_among}
use Rattle.mc_model.specs.declared.channel.Tunnel.{Tunnel}
use Rattle.mc_world.specs.declared.network.World.TheInside.{Inside}
use Rattle.mc_world.specs.declared.topology.Topology.{Topology}

abbrev pub world_state : Inside → WorldState
world_state inside =
    record {
      boxes = inside.boxes.items;
      channels = inside.channels.items;
      lanes = map
          (λ lane. lane.items) inside.lanes.items;
    }

-- the channel of a tunnel, and its number within the channel
abbrev pub channel_of : TunnelPlace → ℕ × ℕ
channel_of tunnel = (tunnel.channel, tunnel.within)

-- the same of each tunnel of one channel
abbrev pub tunnels_by : ℕ → List Tunnel → List (ℕ × ℕ)
tunnels_by channel tunnels = map channel_of (tunnels_within channel 0 tunnels)

-- the tables of these channels and of so many boxes: places and channels are found by number, numbers of slots by their
-- boxes, and those numbers fit
pub record IsTopologyOf (topology : Topology) (channels : List ChannelState) (boxes : ℕ) : Type 0 where
  pub places : topology.places.items ≡ places_among channels
  pub tunnels : topology.tunnels.items ≡ map channel_of (tunnels_from 0 channels)
  pub found : (who local : ℕ)
      → slice_get (numbers_of topology who) local ≡ position (is_place (who, local)) topology.places.items
  pub few : length topology.places.items ≤ 2 ^ 32
  pub homes : length topology.numbers.items ≡ boxes

-- the channels are within the limits, the tables are those of the channels and boxes, each channel has its two lanes,
-- flags and counts say what waits on these, nothing is left of what was sent last, the world is sound, and it has no
-- ring where that is remembered
pub record HasTables (inside : Inside) : Type 0 where
  pub channels : AreChannels inside.channels.items
  pub topology : IsTopologyOf inside.topology inside.channels.items (length inside.boxes.items)
  pub lanes : length inside.lanes.items ≡ 2 * length inside.channels.items
  pub waiting : IsWaiting inside.topology (signals_of inside.lanes.items) inside.waiting
  pub scratch : inside.scratch.items ≡ []
  pub sound : IsSound (world_state inside)
  pub ringless : inside.ringless ≡ true → IsLeastOnRing (world_state inside) None
