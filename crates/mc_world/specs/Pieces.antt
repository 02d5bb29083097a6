-- What an engine of some boxes is made of, and tables that are filled by place and looked over.
use Rattle.std.specs.Prelude.{◌≡◌, ℕ, ◌<◌, ◌≤◌, List, [], length, slice_index_or, Some}
use Rattle.std.specs.List.{slice_get}
use Rattle.mc_box.specs.Boxes.{BoxState, no_box}
use Rattle.mc_box.specs.declared.limit.TheConstants.{SLOT_LIMIT}
use Rattle.mc_model.specs.Worlds.{ChannelState, places_among}
use Rattle.mc_world.specs.Lanes.{numbers_of}
use Rattle.mc_world.specs.Running.{HasSlots}
use Rattle.mc_world.specs.declared.topology.Topology.{Topology}

-- each of so many slots is found by its place
abbrev pub EachFound : Topology → ℕ → Type 0
EachFound topology count =
    (s : ℕ) → s < count
    → slice_get (numbers_of topology (slice_index_or topology.places.items s (0, 0)).0)
    (slice_index_or topology.places.items s (0, 0)).1
    ≡ Some s

-- each number of a home is that of the slot with this place, and there are few
abbrev pub PlacedUpTo : Topology → ℕ → ℕ → Type 0
PlacedUpTo topology who count =
    (local s : ℕ) → local < count → slice_get (numbers_of topology who) local ≡ Some s
    → slice_get topology.places.items s ≡ Some (who, local)

pub record EachPlaced (topology : Topology) (who : ℕ) : Type 0 where
  pub few : length (numbers_of topology who) ≤ SLOT_LIMIT
  pub placed : PlacedUpTo topology who (length (numbers_of topology who))

pub record ArePlaced (topology : Topology) : Type 0 where
  pub found : EachFound topology (length topology.places.items)
  pub placed : (who : ℕ) → who < length topology.numbers.items → EachPlaced topology who

-- each box has a home, and as many numbers there as slots
pub record HaveSlots (topology : Topology) (boxes : List BoxState) : Type 0 where
  pub within : length boxes ≤ length topology.numbers.items
  pub slots : HasSlots topology boxes

-- so tables are those of these boxes, and maybe of others
pub record FitsBoxes (topology : Topology) (boxes : List BoxState) : Type 0 where
  pub placed : ArePlaced topology
  pub slots : HaveSlots topology boxes

-- so many slots of each of so many homes stand at these places: no two at one, each home's first ones, and none is left
-- out
pub record HasPlaces (places : List (ℕ × ℕ)) (homes : ℕ) (count : ℕ → ℕ) : Type 0 where
  pub placed : (s : ℕ) → s < length places → (slice_index_or places s (0, 0)).0 < homes
  pub locals : (s : ℕ) → s < length places
      → (slice_index_or places s (0, 0)).1 < count (slice_index_or places s (0, 0)).0
  pub once : (s t : ℕ) → s < length places → t < length places
      → slice_index_or places s (0, 0) ≡ slice_index_or places t (0, 0) → s ≡ t
  pub all : (who local : ℕ) → who < homes → local < count who
      → (s : ℕ) × (s < length places) × (slice_index_or places s (0, 0) ≡ (who, local))
  pub few : (who : ℕ) → who < homes → count who ≤ SLOT_LIMIT

-- boxes, and all channels that touch them, with so many homes: each box has its home, and as many slots as stand there
pub record IsPiece (boxes : List BoxState) (channels : List ChannelState) (homes : ℕ) : Type 0 where
  pub count : ℕ → ℕ
  pub places : HasPlaces (places_among channels) homes count
  pub within : length boxes ≤ homes
  pub slots : (who : ℕ) → who < length boxes → length (slice_index_or boxes who no_box).slots ≡ count who

-- ---- a table that is filled

-- a slot's number has been put at its local number
pub record PutsAt (old new : List ℕ) (local slot : ℕ) : Type 0 where
  pub there : slice_get new local ≡ Some slot
  pub others : (k s : ℕ) → (k ≡ local → ⊥) → slice_get old k ≡ Some s → slice_get new k ≡ Some s
  pub most : (m : ℕ) → length old ≤ m → local < m → length new ≤ m

-- the first slots have been put, and no home has more numbers than it is to have
pub record AreFilled (places : List (ℕ × ℕ)) (count : ℕ → ℕ) (n : ℕ) (tables : List (List ℕ)) : Type 0 where
  pub found : (s : ℕ) → s < n
      → slice_get (slice_index_or tables (slice_index_or places s (0, 0)).0 []) (slice_index_or places s (0, 0)).1
      ≡ Some s
  pub most : (who : ℕ) → length (slice_index_or tables who []) ≤ count who
