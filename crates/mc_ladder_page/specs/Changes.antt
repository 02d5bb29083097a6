-- The difference of two worlds: the cells that are others after a turn than before it.
use Rattle.std.specs.Prelude.{ℕ, ◌+◌, Bool, true, not, if◌then◌else◌, List, [], ◌∷◌, ◌++◌, codes, drop, take, Option, Some, None}
use Rattle.std.specs.Fmt.{decimal}
use Rattle.std.specs.List.{flat_map, slice_get}
use Rattle.std.specs.Str.{bytes_eq}

-- a cell that is another now, by its number
pub record CellChange : Type 0 where
  pub at : ℕ
  pub cell : List ℕ

-- it is no longer the cell that it was, or a new one
abbrev pub is_another : Option (List ℕ) → (cell : List ℕ) → Bool
is_another None cell = true
is_another (Some old) cell = not (bytes_eq old cell)

-- a list has another cell at a number than this, or none
abbrev pub differs : (old : List (List ℕ)) → (at : ℕ) → (cell : List ℕ) → Bool
differs old at cell = is_another (slice_get old at) cell

abbrev pub change_at : (old : List (List ℕ)) → (at : ℕ) → (cell : List ℕ) → List CellChange
change_at old at cell = if differs old at cell then record { at = at; cell = cell } ∷ [] else []

-- these cells, numbered from a number on, where they are others than those of an older list, or stand behind its end
abbrev pub changes_from : (old : List (List ℕ)) → (at : ℕ) → (cells : List (List ℕ)) → List CellChange
changes_from old at [] = []
changes_from old at (cell ∷ cells) = change_at old at cell ++ changes_from old (at + 1) cells

-- the difference of two lists of cells
abbrev pub changes_between : (old new : List (List ℕ)) → List CellChange
changes_between old new = changes_from old 0 new

-- the list with one cell changed, or with one more behind its end
abbrev pub with_change : List (List ℕ) → CellChange → List (List ℕ)
with_change cells change = take change.at cells ++ change.cell ∷ drop (change.at + 1) cells

-- the list after these changes, one after the other
abbrev pub with_changes : List (List ℕ) → List CellChange → List (List ℕ)
with_changes cells [] = cells
with_changes cells (change ∷ changes) = with_changes (with_change cells change) changes

-- a change as it stands in a row: the number of the cell, and the cell
abbrev pub change_text : CellChange → List ℕ
change_text change = codes "," ++ decimal change.at ++ codes "," ++ change.cell

abbrev pub changes_text : List CellChange → List ℕ
changes_text changes = flat_map change_text changes
