-- Words after spaces.
use Rattle.std.specs.Prelude.{ℕ, List, ◌∷◌}

-- a word after a space
abbrev pub spaced : List ℕ → List ℕ
spaced word = 32 ∷ word
