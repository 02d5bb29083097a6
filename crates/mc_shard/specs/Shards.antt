-- A shard as it runs.
use Rattle.std.specs.Prelude.{◌≡◌, ℕ, ◌+◌, ◌*◌, ◌<◌, ◌≤◌, List, length, max, slice_get, slice_index_or, Option, Some, replicate}
use Rattle.mc_box.specs.Boxes.{BoxState}
use Rattle.mc_box.specs.declared.event.Event.{Event}
use Rattle.mc_shard.specs.Journals.{EntryState}
use Rattle.mc_shard.specs.States.{MayFollow, Places, ShardState, after_entry, count_at, none_reached, places_of}
use Rattle.mc_shard.specs.declared.entry.Asked.{Asked}
use Rattle.mc_shard.specs.declared.entry.AtEnd.{AtEnd}
use Rattle.mc_shard.specs.declared.limit.TheConstants.{LAST_STAMP, SENT_LIMIT}
use Rattle.mc_shard.specs.declared.parts.ShardParts.{ShardParts}

-- a shard: the places of its boxes' slots, the box of each channel end, and its state
pub record LaidShard : Type 0 where
  pub places : Places
  pub owners : List ℕ
  pub state : ShardState

abbrev pub shard_of : ShardParts → LaidShard
shard_of parts = record {
  places = parts.places.items;
  owners = parts.owners.items;
  state = record {
    boxes = parts.boxes.items;
    stamp = parts.stamp;
    sent = parts.sent.items;
    taken = parts.taken.items;
    asked = parts.asked.items;
  };
}

-- ---- what a shard keeps

-- the slots of a box are at ends that are there
abbrev pub AreEnds : ℕ → List (ℕ × ℕ) → Type 0
AreEnds count places = (local : ℕ) (place : ℕ × ℕ) → slice_get places local ≡ Some place → place.0 < count

-- the end of each slot is its box's
abbrev pub OwnEnds : Places → List ℕ → Type 0
OwnEnds places owners = (who local : ℕ) (place : ℕ × ℕ) → slice_get (places_of places who) local ≡ Some place
    → slice_index_or owners place.0 0 ≡ who

-- an end that is there, and is this box's
abbrev pub IsOwn : List ℕ → ℕ → ℕ → Type 0
IsOwn owners who end = (end < length owners) × (slice_index_or owners end 0 ≡ who)

-- each slot of one box is at such an end
abbrev pub AtOwnEnds : List ℕ → ℕ → List (ℕ × ℕ) → Type 0
AtOwnEnds owners who places = (local : ℕ) (place : ℕ × ℕ) → slice_get places local ≡ Some place
    → IsOwn owners who place.0

-- each box has its places, each end its counts and its box; and the counts are within what so many turns can send and
-- take
pub record IsShaped (shard : LaidShard) : Type 0 where
  pub box_count : length shard.places ≡ length shard.state.boxes
  pub taken_count : length shard.state.taken ≡ length shard.state.sent
  pub owner_count : length shard.owners ≡ length shard.state.sent
  pub ends : (who : ℕ) → AreEnds (length shard.state.sent) (places_of shard.places who)
  pub owned : OwnEnds shard.places shard.owners
  pub stamp : shard.state.stamp ≤ LAST_STAMP
  pub few_sent : (end : ℕ) → count_at shard.state.sent end ≤ SENT_LIMIT * shard.state.stamp
  pub few_taken : (end : ℕ) → count_at shard.state.taken end ≤ shard.state.stamp

-- ---- as new

-- boxes, the places of their slots and the boxes of the ends, that fit together
pub record AreLaid (boxes : List BoxState) (places : Places) (owners : List ℕ) : Type 0 where
  pub box_count : length places ≡ length boxes
  pub ends : (who : ℕ) → AreEnds (length owners) (places_of places who)
  pub owned : OwnEnds places owners

-- nothing was sent, taken or asked yet
abbrev pub first_state : List BoxState → ℕ → ℕ → ShardState
first_state boxes ends askers = record {
  boxes = boxes;
  stamp = 0;
  sent = replicate ends none_reached;
  taken = replicate ends none_reached;
  asked = replicate askers 0;
}

-- ---- a turn

-- a turn was made, and this is its entry
pub record IsMade (old new : LaidShard) (entry : EntryState) : Type 0 where
  pub follows : MayFollow old.places old.state entry
  pub after : new ≡ record old { state = after_entry old.state entry }

-- the entry of this event of this box, that this request asked for, that takes this, with this stamp
pub record IsOf (entry : EntryState) (asked : Option Asked) (who : ℕ) (event : Event) (taken : Option AtEnd)
    (stamp : ℕ) : Type 0 where
  pub asked_is : entry.asked ≡ asked
  pub who_is : entry.who ≡ who
  pub event_is : entry.event ≡ event
  pub taken_is : entry.taken ≡ taken
  pub stamp_is : entry.stamp ≡ stamp

-- the entry of a turn that takes this, with this stamp
pub record IsTaking (entry : EntryState) (at : AtEnd) (stamp : ℕ) : Type 0 where
  pub taken_is : entry.taken ≡ Some at
  pub stamp_is : entry.stamp ≡ stamp

-- the least stamp above that of the last turn, and above another
abbrev pub stamp_above : LaidShard → ℕ → ℕ
stamp_above shard other = max shard.state.stamp other + 1
