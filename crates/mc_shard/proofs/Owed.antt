-- Lists of what each number from 0 on gives, for one number more.
use Rattle.std.proofs.Common.{◌≡◌, ◌+◌, ℕ, ◌<◌, length, zero, suc, List, [], ◌∷◌, ◌++◌, flat_map, sym, ap, ◌∙◌, arith}
use Rattle.std.specs.List.{range_with_len}
use Rattle.std.proofs.Math.ListN.{get_or}
use Rattle.std.proofs.lemmas.List.{flat_map_more}
use Rattle.mc_shard.proofs.Shaped.{there_is}

with_last : (first count last : ℕ) → first + count ≡ last
    → range_with_len first (suc count) ≡ range_with_len first count ++ last ∷ []
with_last first zero last is = let same : first ≡ last = omega arith in ap (λ (k : ℕ). k ∷ []) same
with_last first (suc count) last is = ap (λ (ks : List ℕ). first ∷ ks) (with_last (first + 1) count last (omega arith))

numbers_more : (k : ℕ) → range_with_len 0 (k + 1) ≡ range_with_len 0 k ++ k ∷ []
numbers_more k =
    let next : k + 1 ≡ suc k = omega arith in
    ap (λ (n : ℕ). range_with_len 0 n) next ∙ with_last 0 k k (omega arith)

-- what the next number gives stands after what those before it gave
pub each_more : {X : Type 0} (f : ℕ → List X) (before : List X) (k : ℕ)
    → before ++ flat_map f (range_with_len 0 (k + 1)) ≡ (before ++ flat_map f (range_with_len 0 k)) ++ f k
each_more f before k =
    ap (λ (ks : List ℕ). before ++ flat_map f ks) (numbers_more k) ∙ sym (flat_map_more f before (range_with_len 0 k) k)

-- and so it does where it was given of what stands at the number
pub each_here : {X Y : Type 0} (f : ℕ → Y → List X) (ys : List Y) (d : Y) (old new before : List X) (y : Y) (k : ℕ)
    → k < length ys → y ≡ get_or ys k y → old ≡ before ++ flat_map (λ i. f i (get_or ys i d)) (range_with_len 0 k)
    → new ≡ old ++ f k y
    → new ≡ before ++ flat_map (λ i. f i (get_or ys i d)) (range_with_len 0 (k + 1))
each_here {X} {Y} f ys d old new before y k inside is so_far added =
    let same : y ≡ get_or ys k d = is ∙ there_is ys k y d inside in
    added
    ∙ (ap (λ (l : List X). l ++ f k y) so_far
    ∙ (ap (λ (z : Y). (before ++ flat_map (λ i. f i (get_or ys i d)) (range_with_len 0 k)) ++ f k z) same
    ∙ sym (each_more (λ i. f i (get_or ys i d)) before k)))
