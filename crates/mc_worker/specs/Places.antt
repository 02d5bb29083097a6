-- Places of slots, and a table by which slots are found.
use Rattle.std.specs.Prelude.{◌≡◌, ℕ, ◌+◌, ◌*◌, ◌<◌, ◌≤◌, List, length, slice_get, slice_index, Some}
use Rattle.mc_box.specs.declared.limit.TheConstants.{SLOT_LIMIT}
use Rattle.mc_model.specs.declared.channel.TheConstants.{TUNNEL_LIMIT}
use Rattle.mc_worker.specs.declared.limit.TheConstants.{END_LIMIT}

-- the channel end and the tunnel of each slot of a box: all different, and within the limits
pub record ArePlaces (places : List (ℕ × ℕ)) : Type 0 where
  pub few : length places ≤ SLOT_LIMIT
  pub ends : (slot : ℕ) (place : ℕ × ℕ) → slice_get places slot ≡ Some place → place.0 < END_LIMIT
  pub tunnels : (slot : ℕ) (place : ℕ × ℕ) → slice_get places slot ≡ Some place → place.1 < TUNNEL_LIMIT
  pub apart : (s t : ℕ) (place : ℕ × ℕ) → slice_get places s ≡ Some place → slice_get places t ≡ Some place → s ≡ t

-- where a place stands in the table
abbrev pub key : ℕ × ℕ → ℕ
key place = place.0 * TUNNEL_LIMIT + place.1

-- the table has the slot of each place
abbrev pub IsTable : List (ℕ × ℕ) → List ℕ → Type 0
IsTable places table =
    (slot : ℕ) (place : ℕ × ℕ) → slice_get places slot ≡ Some place → slice_index table (key place) ≡ slot

-- the places are at ends that are there
abbrev pub AreAtEnds : ℕ → List (ℕ × ℕ) → Type 0
AreAtEnds count places = (slot : ℕ) (place : ℕ × ℕ) → slice_get places slot ≡ Some place → place.0 < count
