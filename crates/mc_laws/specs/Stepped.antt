-- What one turn does, slot by slot: who takes, who sends, and what is under way then.
use Rattle.std.specs.Prelude.{◌≡◌, ◌≢◌, ◌<◌, ◌⊎◌, ℕ, List, [], ◌++◌, drop, length, slice_index_or}
use Rattle.mc_signal.specs.declared.Signal.{Signal}
use Rattle.mc_signal.specs.declared.Tagged.{Tagged}
use Rattle.mc_box.specs.Acting.{Acted, IsSameMake}
use Rattle.mc_slot.specs.Tunnel.{TunnelSound}
use Rattle.mc_model.specs.Served.{AllServed, LanesServed}
use Rattle.mc_model.specs.Shapes.{HasShape}
use Rattle.mc_model.specs.Sound.{IsNumbered}
use Rattle.mc_model.specs.Worlds.{WorldState, box_at, far, list_to, place, slot_count, slot_of}

-- a lane has lost its front at most, and signals for its slots have come to its end
pub record LaneGrows (world : WorldState) (lane : ℕ) (old new : List Tagged) : Type 0 where
  pub left : List Tagged
  pub more : List Tagged
  pub rest : (left ≡ old) ⊎ (left ≡ drop 1 old)
  pub served : AllServed world lane more
  pub is : new ≡ left ++ more

-- one box has acted: each slot has taken and sent, and under way to it is what was left and what the slot at the other
-- end of its tunnel has sent. Slots of other boxes have done nothing, and those boxes stay; nothing is built anew
pub record Stepped (old new : WorldState) (who : ℕ) : Type 0 where
  pub sent : ℕ → List Signal
  pub left : ℕ → List Signal
  pub acted : (s : ℕ) → s < slot_count old → Acted (slot_of old s) (list_to old s) (sent s) (slot_of new s) (left s)
  pub lists : (s : ℕ) → s < slot_count old → list_to new s ≡ left s ++ sent (far s)
  pub still : (s : ℕ) → s < slot_count old → (place old s).0 ≢ who → (sent s ≡ []) × (left s ≡ list_to old s)
  pub boxes : (other : ℕ) → other ≢ who → box_at new other ≡ box_at old other
  pub makes : (box : ℕ) → IsSameMake (box_at new box) (box_at old box)
  pub count : length new.boxes ≡ length old.boxes
  pub channels : new.channels ≡ old.channels
  pub lane_count : length new.lanes ≡ length old.lanes
  pub lanes : (lane : ℕ) → LaneGrows old lane (slice_index_or old.lanes lane []) (slice_index_or new.lanes lane [])

-- the two slots of each tunnel and what is under way to them are sound
abbrev pub TunnelsSound : WorldState → Type 0
TunnelsSound world =
    (s : ℕ) → s < slot_count world
    → TunnelSound (slot_of world s) (list_to world s) (slot_of world (far s)) (list_to world (far s))

-- what holds of a world whose slots have acted
pub record Stays (old new : WorldState) : Type 0 where
  pub tunnels : TunnelsSound new
  pub numbered : IsNumbered new
  pub media : (s : ℕ) → s < slot_count old → (slot_of new s).medium ≡ (slot_of old s).medium
  pub sides : (s : ℕ) → s < slot_count old → (slot_of new s).initiator ≡ (slot_of old s).initiator
  pub served : LanesServed new
  pub shape : HasShape new old

-- whichever box has acted, and by whichever of its slots
abbrev pub SteppedStays : Type 0
SteppedStays =
    (old new : WorldState) (who : ℕ) → Stepped old new who → TunnelsSound old → IsNumbered old → LanesServed old
    → Stays old new
