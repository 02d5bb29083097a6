-- The lines of a text and the words of a line, as lists.
use Rattle.std.specs.Prelude.{ℕ, ◌==◌, Bool, List, [], ◌∷◌, filter, length, nat_lt, if◌then◌else◌}
use Rattle.std.specs.List.{slice_split}

abbrev pub is_line_end : ℕ → Bool
is_line_end byte = byte == 10

abbrev pub is_space : ℕ → Bool
is_space byte = byte == 32

abbrev pub has_bytes : List ℕ → Bool
has_bytes piece = nat_lt 0 (length piece)

-- what stands between the spaces of a line, where anything does
abbrev pub words : List ℕ → List (List ℕ)
words line = filter has_bytes (slice_split is_space line)

-- the pieces less an empty last one
abbrev pub without_empty_last : List (List ℕ) → List (List ℕ)
without_empty_last [] = []
without_empty_last (piece ∷ []) = if has_bytes piece then piece ∷ [] else []
without_empty_last (piece ∷ next ∷ more) = piece ∷ without_empty_last (next ∷ more)

-- the lines of a text, without their ends; the last may lack its end
abbrev pub lines : List ℕ → List (List ℕ)
lines text = without_empty_last (slice_split is_line_end text)
