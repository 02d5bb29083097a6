-- What a contract sees of a lane.
use Rattle.std.specs.Prelude.{◌≡◌, ℕ, List, [], ◌∷◌, Option, Some, None}

-- the items, first in first out, and how many more can be pushed without memory
pub record Queue (T : Type 0) : Type 0 where
  pub items : List T
  pub spare : ℕ

-- the first item is taken, where there is one
abbrev pub TakesFirst : {T : Type 0} → Option T → List T → List T → Type 0
TakesFirst (Some item) old new = old ≡ item ∷ new
TakesFirst None old new = (old ≡ []) × (new ≡ [])
