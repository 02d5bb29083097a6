-- What a world's tables and lanes have for a slot.
use Rattle.std.proofs.Common.{◌≡◌, ◌==◌, ℕ, ◌/◌, ◌%◌, ◌<◌, Bool, true, false, if◌then◌else◌, IsTrue, ◌↔◌, List, [], ◌∷◌, map, length, get_or, refl, sym, arith}
use Rattle.std.specs.List.{list_all}
use Rattle.std.proofs.lemmas.Grind.{common_steps}
use Rattle.std.proofs.lemmas.List.{get_or_read, length-map}
use Rattle.mc_lane.specs.Queue.{Queue}
use Rattle.mc_signal.specs.declared.Tagged.{Tagged}
use Rattle.mc_box.specs.Boxes.{BoxState, no_box}
use Rattle.mc_model.specs.Settles.{is_empty}
use Rattle.mc_world.specs.Tables.{HasTables, channel_of, world_state}
use Rattle.mc_model.specs.Worlds.{WorldState, box_at, tunnel_of, tunnels_from, slot_count}
use Rattle.mc_world.specs.declared.network.World.TheInside.{Inside}
use Rattle.mc_world.proofs.TunnelTables.{in_table, slot_has_channel, tunnel_is_there}

-- ---- the channel of a slot

-- its place in the table
pub tunnel_below : (inside : Inside) (s : ℕ) → HasTables inside → s < slot_count (world_state inside) → s / 2 < length inside.topology.tunnels.items
tunnel_below inside s has below = rw (has.topology.tunnels, length-map (tunnels_from 0 inside.channels.items) channel_of) (tunnel_is_there inside.channels.items s below)

-- what is read there
pub tunnel_read : (inside : Inside) (s : ℕ) (read : ℕ × ℕ) → HasTables inside → s < slot_count (world_state inside) → read ≡ get_or inside.topology.tunnels.items (s / 2) read
    → read ≡ channel_of (tunnel_of (world_state inside) s)
tunnel_read inside s read has below is =
    in_table (tunnels_from 0 inside.channels.items) (s / 2) read (tunnel_is_there inside.channels.items s below) (rw has.topology.tunnels at is)

pub channel_below : (inside : Inside) (s : ℕ) → s < slot_count (world_state inside) → (tunnel_of (world_state inside) s).channel < length (world_state inside).channels
channel_below inside s below = slot_has_channel inside.channels.items s below

-- ---- the lane to a slot

-- which of the two lanes of its channel it is
pub side_lane : (s : ℕ) (even : Bool) → (IsTrue even ↔ (s % 2 ≡ 0)) → (if even then 0 else 1) ≡ s % 2
side_lane s true is = sym (is.0 refl)
side_lane s false is = grind arith

-- ---- empty lanes

none_here : (lane : List Tagged) → (length lane == 0) ≡ is_empty lane
none_here [] = refl
none_here (tagged ∷ rest) = grind (arith, common_steps)

pub all_empty : (lanes : List (Queue Tagged)) → list_all (λ lane. length lane.items == 0) lanes ≡ list_all is_empty (map (λ (lane : Queue Tagged). lane.items) lanes)
all_empty [] = refl
all_empty (lane ∷ lanes) = rw (none_here lane.items, all_empty lanes) refl

-- ---- a box that is read

pub box_read : (inside : Inside) (world : WorldState) (who : ℕ) (read : BoxState) → world_state inside ≡ world → who < length world.boxes → read ≡ get_or inside.boxes.items who read
    → read ≡ box_at world who
box_read inside world who read is here reads = rw (← is) (get_or_read inside.boxes.items who read (rw (← is) at here) reads no_box)
