-- What a plan keeps: that its channels join its boxes slot by slot, within the limits.
use Rattle.std.specs.Prelude.{◌≡◌, ◌≢◌, ℕ, ◌+◌, ◌<◌, ◌≤◌, List, All, count_by, length, slice_index_or, slice_set, take}
use Rattle.mc_model.specs.Worlds.{ChannelState, HasTunnels, places_among}
use Rattle.mc_plan.specs.Plans.{PlanState, is_of, slots_of}
use Rattle.mc_box.specs.declared.limit.TheConstants.{SLOT_LIMIT}
use Rattle.mc_plan.specs.declared.limit.TheConstants.{PLAN_BOX_LIMIT, PLAN_CHANNEL_LIMIT}

-- the box and local number of a slot, by its number among these
abbrev pub place_at : List (ℕ × ℕ) → ℕ → ℕ × ℕ
place_at places s = slice_index_or places s (0, 0)

-- the box of each slot is one of so many
abbrev pub AreThere : ℕ → List (ℕ × ℕ) → Type 0
AreThere boxes places = (s : ℕ) → s < length places → (place_at places s).0 < boxes

-- the local number of each slot is how many slots of its box stand before it
abbrev pub AreInOrder : List (ℕ × ℕ) → Type 0
AreInOrder places =
    (s : ℕ) → s < length places → (place_at places s).1 ≡ count_by (is_of (place_at places s).0) (take s places)

-- at most 262,144 boxes of 64 slots, and as many channels of one to 8 tunnels between different boxes: each slot's box
-- is there, and the slots of a box are numbered in the order of tunnels
pub record IsLaidOut (plan : PlanState) : Type 0 where
  pub boxes : length plan.boxes ≤ PLAN_BOX_LIMIT
  pub channels : length plan.channels ≤ PLAN_CHANNEL_LIMIT
  pub tunnels : All HasTunnels plan.channels
  pub apart : All (λ ends. ends.from ≢ ends.to) plan.channels
  pub slots : (who : ℕ) → slots_of plan.channels who ≤ SLOT_LIMIT
  pub there : AreThere (length plan.boxes) (places_among plan.channels)
  pub ordered : AreInOrder (places_among plan.channels)

-- the two boxes of a channel are among so many
pub record HasBoxes (boxes : ℕ) (ends : ChannelState) : Type 0 where
  pub near : ends.from < boxes
  pub far : ends.to < boxes

-- these are the numbers of slots of all boxes, and 0 where there is no box
abbrev pub AreSlotCounts : List ℕ → List ChannelState → Type 0
AreSlotCounts counts channels = (who : ℕ) → slice_index_or counts who 0 ≡ slots_of channels who

-- a plan that is laid out, with the number of slots of each of its boxes
pub record IsCountedPlan (plan : PlanState) (counts : List ℕ) : Type 0 where
  pub laid : IsLaidOut plan
  pub long : length counts ≡ length plan.boxes
  pub counted : AreSlotCounts counts plan.channels

-- a box has so many slots more, by these counts
abbrev pub raised : List ℕ → (who more : ℕ) → List ℕ
raised counts who more = slice_set counts who (slice_index_or counts who 0 + more)

-- two boxes are counted, and may have so many slots more
pub record MayCount (counts : List ℕ) (from to more : ℕ) : Type 0 where
  pub near : from < length counts
  pub far : to < length counts
  pub apart : from ≢ to
  pub near_few : slice_index_or counts from 0 + more ≤ SLOT_LIMIT
  pub far_few : slice_index_or counts to 0 + more ≤ SLOT_LIMIT
