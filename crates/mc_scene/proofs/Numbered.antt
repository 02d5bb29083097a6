-- Lists of what each number from 0 on gives, for one number more.
use Rattle.std.proofs.Common.{◌≡◌, ◌+◌, ℕ, zero, suc, List, [], ◌∷◌, ◌++◌, map, flat_map, sym, ap, ◌∙◌, arith}
use Rattle.std.specs.List.{range_with_len}
use Rattle.std.proofs.lemmas.List.{flat_map_more}
use Rattle.std.proofs.lemmas.List.FromFn.{map-range_with_len_more}

with_last : (first count last : ℕ) → first + count ≡ last → range_with_len first (suc count) ≡ range_with_len first count ++ last ∷ []
with_last first zero last is = let same : first ≡ last = omega arith in ap (λ (k : ℕ). k ∷ []) same
with_last first (suc count) last is = ap (λ (ks : List ℕ). first ∷ ks) (with_last (first + 1) count last (omega arith))

pub numbers_more : (k : ℕ) → range_with_len 0 (k + 1) ≡ range_with_len 0 k ++ k ∷ []
numbers_more k = let next : k + 1 ≡ suc k = omega arith in ap (λ (n : ℕ). range_with_len 0 n) next ∙ with_last 0 k k (omega arith)

-- what the next number gives stands after what those before it gave
pub each_more : (f : ℕ → List ℕ) (before : List ℕ) (k : ℕ) → before ++ flat_map f (range_with_len 0 (k + 1)) ≡ (before ++ flat_map f (range_with_len 0 k)) ++ f k
each_more f before k = ap (λ (ks : List ℕ). before ++ flat_map f ks) (numbers_more k) ∙ sym (flat_map_more f before (range_with_len 0 k) k)

pub map_one_more : {X : Type 0} (f : ℕ → X) (k : ℕ) → map f (range_with_len 0 (k + 1)) ≡ map f (range_with_len 0 k) ++ f k ∷ []
map_one_more f k = map-range_with_len_more f 0 k k (omega arith)
