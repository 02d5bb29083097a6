-- Lists of words as they are read.
use Rattle.std.proofs.Common.{◌≡◌, ℕ, zero, suc, List, [], ◌∷◌, drop, length, arith}
use Rattle.std.specs.Prelude.{nat_lt}
use Rattle.std.specs.List.{slice_get}
use Rattle.std.specs.Option.{is_some}

-- a word stands after the first few exactly where there are more
pub is_some-behind : (words : List (List ℕ)) (n : ℕ) → is_some (slice_get (drop n words) 0) ≡ nat_lt n (length words)
is_some-behind [] zero = grind arith
is_some-behind [] (suc n) = grind arith
is_some-behind (word ∷ words) zero = grind arith
is_some-behind (word ∷ words) (suc n) = let rest = is_some-behind words n in grind arith
