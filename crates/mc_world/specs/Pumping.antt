-- What leaves an engine for elsewhere, and what comes into it.
use Rattle.std.specs.Prelude.{◌≡◌, ℕ, Bool, true, ◌<◌, ◌==◌, ◌&&◌, [], ◌∷◌, ◌++◌, drop, length, nat_lt, slice_index_or, slice_set, Some}
use Rattle.std.specs.Option.{is_some}
use Rattle.mc_signal.specs.declared.Tagged.{Tagged}
use Rattle.mc_model.specs.Worlds.{WorldState, front, lane_of, place, slot_count, tunnel_of}
use Rattle.mc_world.specs.Lanes.{without_front}
use Rattle.mc_world.specs.declared.network.engine.Outgoing.{Outgoing}

-- a signal waits that a slot of this home can take
pub record WaitsAt (world : WorldState) (who slot : ℕ) : Type 0 where
  pub here : slot < slot_count world
  pub home : (place world slot).0 ≡ who
  pub waits : is_some (front world slot) ≡ true

-- a signal stands first in the lane that leads to a slot, and is for it
pub record IsOutgoing (world : WorldState) (out : Outgoing) : Type 0 where
  pub here : out.slot < slot_count world
  pub lane : out.lane ≡ lane_of world out.slot
  pub tunnel : out.tunnel ≡ (tunnel_of world out.slot).within
  pub front : front world out.slot ≡ Some out.signal
  pub there : out.lane < length world.lanes
  pub first : slice_index_or world.lanes out.lane []
      ≡ record { tunnel = out.tunnel; signal = out.signal } ∷ drop 1 (slice_index_or world.lanes out.lane [])

-- the first signal of a lane leaves it
abbrev pub without_first : WorldState → ℕ → WorldState
without_first world lane = record world { lanes = without_front world.lanes lane }

-- a signal goes to the end of a lane
abbrev pub with_last : WorldState → ℕ → Tagged → WorldState
with_last world lane tagged =
    record world { lanes = slice_set world.lanes lane (slice_index_or world.lanes lane [] ++ tagged ∷ []) }

-- whether there is a slot with this number, to which this lane leads, and whose tunnel has this number within its
-- channel
abbrev pub is_slot_at : WorldState → ℕ → ℕ → ℕ → Bool
is_slot_at world lane tunnel slot =
    nat_lt slot (slot_count world) && (lane_of world slot == lane && (tunnel_of world slot).within == tunnel)
