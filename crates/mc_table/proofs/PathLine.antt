-- The line of a path, put together.
use Rattle.std.proofs.Common.{◌≡◌, ℕ, List, [], ◌∷◌, ◌++◌, append_assoc, codes, refl}
use Rattle.mc_table.specs.Words.{line_of}

-- its pieces after what was there are one line of words
pub path_line : (out low high low_goal high_goal flow medium : List ℕ)
    → (((((out ++ codes "path ") ++ low) ++ 32 ∷ []) ++ high) ++ (32 ∷ low_goal ++ 32 ∷ high_goal ++ 32 ∷ [])) ++ (flow ++ 32 ∷ medium ++ 10 ∷ [])
    ≡ out ++ line_of (codes "path" ∷ low ∷ high ∷ low_goal ∷ high_goal ∷ flow ∷ medium ∷ [])
path_line out low high low_goal high_goal flow medium = simp append_assoc refl
