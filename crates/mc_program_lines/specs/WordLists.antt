-- Lists of words.
use Rattle.std.specs.Prelude.{ℕ, ◌||◌, Bool, false, List, [], ◌∷◌}
use Rattle.std.specs.List.{list_any}
use Rattle.std.specs.Str.{bytes_eq}

-- some word stands there twice
abbrev pub has_repeat : List (List ℕ) → Bool
has_repeat [] = false
has_repeat (word ∷ others) = list_any (bytes_eq word) others || has_repeat others
