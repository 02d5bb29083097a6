-- What every name of a box keeps. It names no struct, so that the struct's ghost fields can cite it.
use Rattle.std.specs.Prelude.{◌≡◌, ◌≤◌, ℕ, List, length, slice_index}
use Rattle.mc_text.specs.declared.limit.TheConstants.{NAME_LIMIT}

-- it has as many places as a name may have bytes, whether they are used or not
abbrev pub HasPlaces : List ℕ → Type 0
HasPlaces at = length at ≡ NAME_LIMIT

-- the entries from len on are 0
abbrev pub IsBlankFrom : ℕ → List ℕ → Type 0
IsBlankFrom len at = (k : ℕ) → len ≤ k → slice_index at k ≡ 0
