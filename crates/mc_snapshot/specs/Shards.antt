-- The form of a shard.
use Rattle.std.specs.Prelude.{ℕ, ◌<◌, ◌≤◌, ◌^◌, List, ◌∷◌, length}
use Rattle.std.specs.List.{AllByRecursion}
use Rattle.mc_entry.specs.Wire.{word4, word8}
use Rattle.mc_box.specs.BoxSound.{IsSoundBox}
use Rattle.mc_shard.specs.Shards.{IsShaped, LaidShard}
use Rattle.mc_shard.specs.declared.reached.Reached.{Reached}
use Rattle.mc_snapshot.specs.Boxes.{FitsBox, IsWritten, box_wire, byte_wire}
use Rattle.mc_snapshot.specs.Forms.{FitsList, FitsPair, list_wire, pair_wire}
use Rattle.mc_snapshot.specs.declared.shards.TheConstants.{SNAPSHOT_VERSION}

-- the channel end and the tunnel of each slot of a box
abbrev pub places_wire : List (ℕ × ℕ) → List ℕ → List ℕ
places_wire places more = list_wire (pair_wire word4 byte_wire) places more

abbrev pub FitsPlaces : List (ℕ × ℕ) → Type 0
FitsPlaces places = FitsList (FitsPair (λ n. n < 2 ^ 32) (λ n. n < 2 ^ 8)) places

-- 16 bytes
abbrev pub reached_wire : Reached → List ℕ → List ℕ
reached_wire reached more = word8 reached.count (word8 reached.digest more)

pub record FitsReached (reached : Reached) : Type 0 where
  pub count : reached.count < 2 ^ 64
  pub digest : reached.digest < 2 ^ 64

-- how far its lanes are at each end, and the last request of each asker
abbrev pub counts_wire : LaidShard → List ℕ → List ℕ
counts_wire shard more = list_wire reached_wire shard.state.sent (list_wire reached_wire shard.state.taken
    (list_wire word8 shard.state.asked more))

-- the form's version, the last stamp, the boxes, the places of their slots, the box of each channel end, and the counts
abbrev pub shard_wire : LaidShard → List ℕ → List ℕ
shard_wire shard more = SNAPSHOT_VERSION ∷ word8 shard.state.stamp (list_wire box_wire shard.state.boxes
    (list_wire places_wire shard.places (list_wire word4 shard.owners (counts_wire shard more))))

-- each number fits its field
pub record FitsShard (shard : LaidShard) : Type 0 where
  pub stamp : shard.state.stamp < 2 ^ 64
  pub boxes : FitsList FitsBox shard.state.boxes
  pub places : FitsList FitsPlaces shard.places
  pub owners : FitsList (λ n. n < 2 ^ 32) shard.owners
  pub sent : FitsList FitsReached shard.state.sent
  pub taken : FitsList FitsReached shard.state.taken
  pub asked : FitsList (λ n. n < 2 ^ 64) shard.state.asked

-- a box has no more slots than there are numbers of slots
abbrev pub AreFewPlaces : List (ℕ × ℕ) → Type 0
AreFewPlaces places = length places ≤ 256

-- what a shard keeps, and each of its boxes
pub record IsKept (shard : LaidShard) : Type 0 where
  pub shaped : IsShaped shard
  pub boxes : AllByRecursion IsSoundBox shard.state.boxes
  pub places : AllByRecursion AreFewPlaces shard.places

-- ---- what is known of a shard that was written

pub record ArePlacesWritten (places : List (ℕ × ℕ)) : Type 0 where
  pub fits : FitsPlaces places
  pub few : AreFewPlaces places

pub record IsShardWritten (shard : LaidShard) : Type 0 where
  pub stamp : shard.state.stamp < 2 ^ 64
  pub boxes : FitsList IsWritten shard.state.boxes
  pub places : FitsList ArePlacesWritten shard.places
  pub owners : FitsList (λ n. n < 2 ^ 32) shard.owners
  pub sent : FitsList FitsReached shard.state.sent
  pub taken : FitsList FitsReached shard.state.taken
  pub asked : FitsList (λ n. n < 2 ^ 64) shard.state.asked
