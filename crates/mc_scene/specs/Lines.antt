-- Lines of words, and texts of lines.
use Rattle.std.specs.Prelude.{ℕ, List, [], ◌∷◌, ◌++◌, flat_map}
use Rattle.std.specs.List.{join_with_byte}

-- words with single spaces between them, and a line end
abbrev pub words_line : List (List ℕ) → List ℕ
words_line words = join_with_byte 32 words ++ 10 ∷ []

-- lines, each with its end
abbrev pub lines_text : List (List ℕ) → List ℕ
lines_text lines = flat_map (λ line. line ++ 10 ∷ []) lines
