-- Columns for one box more.
use Rattle.std.proofs.Common.{◌≡◌, ◌+◌, ◌∙◌, ℕ, List, [], ◌∷◌, ◌++◌, map, refl, ap}
use Rattle.std.specs.List.{range_with_len}
use Rattle.mc_ladder.specs.Columns.{with_all_new, with_new}
use Rattle.mc_ladder.proofs.Numbered.{map_one_more, numbers_more}

-- the last of some boxes comes after the others
pub last_new : (columns others : List ℕ) (who : ℕ) → with_all_new columns (others ++ who ∷ []) ≡ with_new (with_all_new columns others) who
last_new columns [] who = refl
last_new columns (first ∷ others) who = last_new (with_new columns first) others who

-- and so does the next number
pub numbers_new : (columns : List ℕ) (k : ℕ) → with_all_new columns (range_with_len 0 (k + 1)) ≡ with_new (with_all_new columns (range_with_len 0 k)) k
numbers_new columns k = ap (with_all_new columns) (numbers_more k) ∙ last_new columns (range_with_len 0 k) k

-- and what the next number gives
pub given_new : (f : ℕ → ℕ) (columns : List ℕ) (k : ℕ) → with_all_new columns (map f (range_with_len 0 (k + 1))) ≡ with_new (with_all_new columns (map f (range_with_len 0 k))) (f k)
given_new f columns k = ap (with_all_new columns) (map_one_more f k) ∙ last_new columns (map f (range_with_len 0 k)) (f k)
