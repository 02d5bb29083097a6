-- Where the lanes of a network begin and end, and where its slots have their places.
use Rattle.std.specs.Prelude.{◌≡◌, ◌≢◌, ℕ, ◌+◌, ◌*◌, ◌<◌, ◌≤◌, ◌++◌, All, List, [], ◌∷◌, length, map, slice_get, slice_index_or, slice_set, Option, Some}
use Rattle.std.specs.declared.vec.Vec.{Vec}
use Rattle.std.specs.declared.alloc.Global.{Global}
use Rattle.mc_box.specs.Boxes.{BoxState, no_box}
use Rattle.mc_team.specs.declared.layout.LaneEnds.{LaneEnds}
use Rattle.mc_team.specs.declared.layout.TeamLayout.{TeamLayout}
use Rattle.mc_model.specs.Worlds.{ChannelState, far, first_world, lane_of, place, places_within, slot_count, tunnel_of}
use Rattle.mc_model.specs.declared.channel.Tunnel.{Tunnel}
use Rattle.mc_port.specs.Ends.{given, in_ring, known, out_ring, received}
use Rattle.mc_port.specs.declared.ends.InPort.{InPort}
use Rattle.mc_port.specs.declared.ends.OutPort.{OutPort}
use Rattle.mc_worker.specs.Places.{AreAtEnds, ArePlaces}
use Rattle.mc_worker.specs.declared.limit.TheConstants.{END_LIMIT}

-- ---- lists by box

-- what some lists have
abbrev pub inner_lists : {A : Type 0} → List (Vec A Global) → List (List A)
inner_lists {A} lists = map (λ (list : Vec A Global). list.items) lists

-- the list of a box
abbrev pub of_box : {A : Type 0} → List (List A) → ℕ → List A
of_box lists who = slice_index_or lists who []

-- its entry for a channel end, or for a slot
abbrev pub at_end : {A : Type 0} → List (List A) → ℕ → ℕ → Option A
at_end lists who end = slice_get (of_box lists who) end

-- ---- lanes and channel ends

abbrev pub no_lane_ends : LaneEnds
no_lane_ends = record { from = 0; from_end = 0; to = 0; to_end = 0 }

abbrev pub ends_of_lane : List LaneEnds → ℕ → LaneEnds
ends_of_lane lanes lane = slice_index_or lanes lane no_lane_ends

-- lane 2k leads to the initiator's box of channel k from the other box, and lane 2k + 1 back
pub record JoinsBoxes (channel : ChannelState) (to_initiator to_other : LaneEnds) : Type 0 where
  pub to : to_initiator.to ≡ channel.from
  pub from : to_initiator.from ≡ channel.to
  pub far_to : to_other.to ≡ channel.to
  pub far_from : to_other.from ≡ channel.from

-- each channel end has the lane that leads to it, and the far one of that leads away from it
pub record AreEnds (lanes : List LaneEnds) (ends : List (List ℕ)) : Type 0 where
  pub taking : (lane : ℕ) → lane < length lanes
      → at_end ends (ends_of_lane lanes lane).to (ends_of_lane lanes lane).to_end ≡ Some lane
  pub giving : (lane : ℕ) → lane < length lanes
      → at_end ends (ends_of_lane lanes lane).from (ends_of_lane lanes lane).from_end ≡ Some (far lane)
  pub there : (who end lane : ℕ) → at_end ends who end ≡ Some lane → lane < length lanes
  pub taker : (who end lane : ℕ) → at_end ends who end ≡ Some lane
      → ((ends_of_lane lanes lane).to ≡ who) × ((ends_of_lane lanes lane).to_end ≡ end)
  pub giver : (who end lane : ℕ) → at_end ends who end ≡ Some lane
      → ((ends_of_lane lanes (far lane)).from ≡ who) × ((ends_of_lane lanes (far lane)).from_end ≡ end)

-- ---- places

-- a slot's place is its tunnel at the channel end to which its lane leads
pub record IsPlacedAt (boxes : List BoxState) (channels : List ChannelState) (ends : List (List ℕ))
    (places : List (List (ℕ × ℕ))) (s : ℕ) : Type 0 where
  pub end : ℕ
  pub at : at_end places (place (first_world boxes channels) s).0 (place (first_world boxes channels) s).1
      ≡ Some (end, (tunnel_of (first_world boxes channels) s).within)
  pub lane : at_end ends (place (first_world boxes channels) s).0 end ≡ Some (lane_of (first_world boxes channels) s)

-- an entry for each slot of each box
pub record AreBare (boxes : List BoxState) (places : List (List (ℕ × ℕ))) : Type 0 where
  pub count : length places ≡ length boxes
  pub long : (who : ℕ) → length (of_box places who) ≡ length (slice_index_or boxes who no_box).slots

-- ---- rings

-- the taking end and the giving end of each lane are those of one ring
abbrev pub AreRings : List LaneEnds → List (List InPort) → List (List OutPort) → Type 0
AreRings lanes ins outs = (lane : ℕ) → lane < length lanes
    → slice_get (map in_ring (of_box ins (ends_of_lane lanes lane).to)) (ends_of_lane lanes lane).to_end
    ≡ slice_get (map out_ring (of_box outs (ends_of_lane lanes lane).from)) (ends_of_lane lanes lane).from_end

-- nothing came through it, and nothing is known to be there
pub record IsNewIn (port : InPort) : Type 0 where
  pub nothing : received port ≡ []
  pub unknown : known port ≡ []

-- nothing was given
abbrev pub IsNewOut : OutPort → Type 0
IsNewOut port = given port ≡ []

-- ---- a layout

-- the layout of boxes that these channels join, whose slots have places as far as these channels go
pub record IsLayoutSoFar (boxes : List BoxState) (channels : List ChannelState) (layout : TeamLayout) : Type 0 where
  pub lane_count : length layout.lanes.items ≡ 2 * length channels
  pub joins : (k : ℕ) (channel : ChannelState) → slice_get channels k ≡ Some channel
      → JoinsBoxes channel (ends_of_lane layout.lanes.items (2 * k)) (ends_of_lane layout.lanes.items (2 * k + 1))
  pub ends : AreEnds layout.lanes.items (inner_lists layout.ends.items)
  pub box_count : length layout.ends.items ≡ length boxes
  pub bare : AreBare boxes (inner_lists layout.places.items)
  pub places : (s : ℕ) → s < slot_count (first_world boxes channels)
      → IsPlacedAt boxes channels (inner_lists layout.ends.items) (inner_lists layout.places.items) s
  pub in_boxes : length layout.ins.items ≡ length boxes
  pub out_boxes : length layout.outs.items ≡ length boxes
  pub in_count : (who : ℕ)
      → length (of_box (inner_lists layout.ins.items) who) ≡ length (of_box (inner_lists layout.ends.items) who)
  pub out_count : (who : ℕ)
      → length (of_box (inner_lists layout.outs.items) who) ≡ length (of_box (inner_lists layout.ends.items) who)
  pub rings : AreRings layout.lanes.items (inner_lists layout.ins.items) (inner_lists layout.outs.items)
  pub new_ins : (who : ℕ) → All IsNewIn (of_box (inner_lists layout.ins.items) who)
  pub new_outs : (who : ℕ) → All IsNewOut (of_box (inner_lists layout.outs.items) who)

-- and of a network: the places of each box are all different and at ends that are there, of which no box has too many
pub record IsLayoutOf (boxes : List BoxState) (channels : List ChannelState) (layout : TeamLayout) : Type 0 where
  pub whole : IsLayoutSoFar boxes channels layout
  pub few : (who : ℕ) → length (of_box (inner_lists layout.ends.items) who) ≤ END_LIMIT
  pub places : (who : ℕ) → ArePlaces (of_box (inner_lists layout.places.items) who)
  pub at_ends : (who : ℕ)
      → AreAtEnds (length (of_box (inner_lists layout.ends.items) who)) (of_box (inner_lists layout.places.items) who)

-- ---- what a channel adds

-- a box got one end more, and nothing else changed
pub record IsEndAdded (old new : TeamLayout) (who lane : ℕ) (taking : InPort) (giving : OutPort) : Type 0 where
  pub ends : inner_lists new.ends.items
      ≡ slice_set (inner_lists old.ends.items) who (of_box (inner_lists old.ends.items) who ++ lane ∷ [])
  pub ins : inner_lists new.ins.items
      ≡ slice_set (inner_lists old.ins.items) who (of_box (inner_lists old.ins.items) who ++ taking ∷ [])
  pub outs : inner_lists new.outs.items
      ≡ slice_set (inner_lists old.outs.items) who (of_box (inner_lists old.outs.items) who ++ giving ∷ [])
  pub lanes : new.lanes ≡ old.lanes
  pub places : new.places ≡ old.places

-- the slots of a channel are all different
abbrev pub AreSlotsApart : ChannelState → Type 0
AreSlotsApart channel =
    (i j : ℕ) (place : ℕ × ℕ) → slice_get (places_within channel) i ≡ Some place
    → slice_get (places_within channel) j ≡ Some place → i ≡ j

-- each has an entry
abbrev pub AreSlotsInside : ChannelState → List (List (ℕ × ℕ)) → Type 0
AreSlotsInside channel places =
    (i : ℕ) (place : ℕ × ℕ) → slice_get (places_within channel) i ≡ Some place
    → (place.0 < length places) × (place.1 < length (of_box places place.0))

-- each slot of a channel has its place, and each other one the place that it had
pub record ArePlaced (channel : ChannelState) (from_end to_end : ℕ) (old new : List (List (ℕ × ℕ))) : Type 0 where
  pub from : (within : ℕ) (tunnel : Tunnel) → slice_get channel.tunnels within ≡ Some tunnel
      → at_end new channel.from tunnel.from ≡ Some (from_end, within)
  pub to : (within : ℕ) (tunnel : Tunnel) → slice_get channel.tunnels within ≡ Some tunnel
      → at_end new channel.to tunnel.to ≡ Some (to_end, within)
  pub others : (who local : ℕ) → ((i : ℕ) → slice_get (places_within channel) i ≢ Some (who, local))
      → at_end new who local ≡ at_end old who local
  pub count : length new ≡ length old
  pub long : (who : ℕ) → length (of_box new who) ≡ length (of_box old who)
