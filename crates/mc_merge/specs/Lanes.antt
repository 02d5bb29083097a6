-- The lanes of a world as its boxes see them: which tunnel of a lane each slot has, and which boxes stand at a lane's
-- ends.
use Rattle.std.specs.Prelude.{◌≡◌, ◌==◌, ℕ, ◌/◌, ◌%◌, ◌<◌, if◌then◌else◌, [], length, slice_index_or, Option, Some, None}
use Rattle.std.specs.Option.{option_map}
use Rattle.mc_signal.specs.declared.Tagged.{Tagged}
use Rattle.mc_box.specs.declared.event.Event.{Event}
use Rattle.mc_box.specs.declared.event.Event.TheVariants.{Take}
use Rattle.mc_port.specs.Tunnels.{Tunnels, tunnel_if_at}
use Rattle.mc_model.specs.Sound.{IsNumbered}
use Rattle.mc_model.specs.Worlds.{AreChannels, ChannelState, WorldState, far, lane_of, number, tunnel_of}

-- ---- the slots of a box

-- the lane that leads to a slot, and the slot's tunnel
abbrev pub lane_place : WorldState → ℕ → ℕ × ℕ
lane_place world s = (lane_of world s, (tunnel_of world s).within)

-- which tunnel of a lane that leads to the box each of its slots has
abbrev pub into_box : WorldState → ℕ → ℕ → Tunnels
into_box world who lane local = tunnel_if_at lane (option_map (λ s. lane_place world s) (number world who local))

-- and of a lane that leads away from it
abbrev pub out_of_box : WorldState → ℕ → ℕ → Tunnels
out_of_box world who lane local =
    tunnel_if_at lane (option_map (λ s. lane_place world (far s)) (number world who local))

-- the tunnel of each slot of a box
abbrev pub tunnel_at : WorldState → ℕ → Tunnels
tunnel_at world who local = option_map (λ s. (tunnel_of world s).within) (number world who local)

-- what is taken is for the tunnel of the slot that takes it
abbrev pub FitsTaker : WorldState → ℕ → Event → Tagged → Type 0
FitsTaker world who (Take local) tagged = tunnel_at world who local ≡ Some tagged.tunnel
FitsTaker world who event tagged = Unit {0}

abbrev pub FitsTunnel : WorldState → ℕ → Event → Option Tagged → Type 0
FitsTunnel world who event None = Unit {0}
FitsTunnel world who event (Some tagged) = FitsTaker world who event tagged

-- ---- the boxes at a lane's ends

-- what stands where no channel is
abbrev pub absent_channel : ChannelState
absent_channel = record { from = 0; to = 0; tunnels = [] }

abbrev pub lane_channel : WorldState → ℕ → ChannelState
lane_channel world lane = slice_index_or world.channels (lane / 2) absent_channel

-- the box that a lane leads to: lane 2k leads to the initiator's box of channel k
abbrev pub leads_to : WorldState → ℕ → ℕ
leads_to world lane = if lane % 2 == 0 then (lane_channel world lane).from else (lane_channel world lane).to

-- and the one that it leads from
abbrev pub leads_from : WorldState → ℕ → ℕ
leads_from world lane = if lane % 2 == 0 then (lane_channel world lane).to else (lane_channel world lane).from

-- the boxes at both ends of a lane are there
pub record HasBothBoxes (world : WorldState) (lane : ℕ) : Type 0 where
  pub sender : leads_from world lane < length world.boxes
  pub taker : leads_to world lane < length world.boxes

-- where all is numbered as it should be, and each channel has a tunnel, each lane has both
abbrev pub LanesHaveBoxes : Type 0
LanesHaveBoxes =
    (world : WorldState) (lane : ℕ) → IsNumbered world → AreChannels world.channels → lane < length world.lanes
    → HasBothBoxes world lane
