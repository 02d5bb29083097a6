-- The slots that walks from lower ends have reached.
use Rattle.std.specs.Prelude.{ℕ, Bool, true, false, ◌≡◌, List, length, slice_index_or, None}
use Rattle.mc_model.specs.Paths.{path_from}
use Rattle.mc_model.specs.Worlds.{WorldState, slot_count}

-- a flag for each slot of a world: no reached slot is the lower end of a path
pub record AreReached (world : WorldState) (reached : List Bool) : Type 0 where
  pub all : length reached ≡ slot_count world
  pub none : (s : ℕ) → slice_index_or reached s false ≡ true → path_from world s ≡ None
