-- What the elements of a list give, for one more of them.
use Rattle.std.proofs.Common.{◌≡◌, ◌<◌, ◌+◌, ◌++◌, ℕ, List, length, take, flat_map, arith}
use Rattle.std.proofs.Math.ListN.{get_or}
use Rattle.std.proofs.lemmas.Grind.{common_steps}

pub each_taken : {X : Type 0} (f : X → List ℕ) (xs : List X) (i : ℕ) (x : X) (before so_far next : List ℕ) → i < length xs → get_or xs i x ≡ x
    → so_far ≡ before ++ flat_map f (take i xs) → next ≡ so_far ++ f x → next ≡ before ++ flat_map f (take (i + 1) xs)
each_taken f xs i x before so_far next below is one two = grind (arith, common_steps)
