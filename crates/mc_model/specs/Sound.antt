-- A sound world: what every world of a run keeps.
use Rattle.std.specs.Prelude.{◌≡◌, ℕ, ◌*◌, ◌%◌, ◌<◌, ◌==◌, List, length, slice_index_or, Some}
use Rattle.mc_slot.specs.Tunnel.{TunnelSound}
use Rattle.mc_box.specs.BoxSound.{IsSoundBox}
use Rattle.mc_box.specs.Boxes.{BoxState, IsBox, IsNewBox, media_at, no_box}
use Rattle.mc_model.specs.Served.{LanesServed}
use Rattle.mc_model.specs.Worlds.{WorldState, tunnel_of, slot_count, place, number, far, box_at, slot_of, list_to}

-- each of these boxes is new
abbrev pub AreNew : List BoxState → Type 0
AreNew boxes = (who : ℕ) → who < length boxes → IsNewBox (slice_index_or boxes who no_box)

-- boxes are numbered in order, tunnels join each slot of each box once, and each slot has its number, the medium of its
-- tunnel, and the side that it stands on
pub record IsNumbered (world : WorldState) : Type 0 where
  pub boxes : (who : ℕ) → who < length world.boxes → (box_at world who).number ≡ who
  pub whole : (who : ℕ) → who < length world.boxes → IsBox (box_at world who)
  pub lanes : length world.lanes ≡ 2 * length world.channels
  pub placed : (s : ℕ) → s < slot_count world → (place world s).0 < length world.boxes
  pub slots : (s : ℕ) → s < slot_count world → (place world s).1 < length (box_at world (place world s).0).slots
  pub once : (s : ℕ) → s < slot_count world → number world (place world s).0 (place world s).1 ≡ Some s
  pub all : (who local : ℕ) → who < length world.boxes → local < length (box_at world who).slots
      → (s : ℕ) × (s < slot_count world) × (place world s ≡ (who, local))
  pub origins : (s : ℕ) → s < slot_count world
      → (media_at (box_at world (place world s).0) (place world s).1).origin ≡ s
  pub media : (s : ℕ) → s < slot_count world → (slot_of world s).medium ≡ (tunnel_of world s).medium
  pub sides : (s : ℕ) → s < slot_count world → (slot_of world s).initiator ≡ (s % 2 == 0)

-- each tunnel is sound with what is under way in it, each box is sound, so that its links are mutual and each of its
-- goals is at rest, all is numbered as it should be, and each signal under way is on the lane of the slot that it is
-- for
pub record IsSound (world : WorldState) : Type 0 where
  pub tunnels : (s : ℕ) → s < slot_count world
      → TunnelSound (slot_of world s) (list_to world s) (slot_of world (far s)) (list_to world (far s))
  pub boxes : (who : ℕ) → who < length world.boxes → IsSoundBox (box_at world who)
  pub numbered : IsNumbered world
  pub served : LanesServed world
