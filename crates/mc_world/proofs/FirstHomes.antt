-- Nothing is counted before the place where the first of all that is counted stands.
use Rattle.std.proofs.Common.{◌≡◌, ◌<◌, ◌≤◌, ◌+◌, zero, suc, ℕ, List, [], ◌∷◌, get_or, sum, take, arith}
use Rattle.std.proofs.lemmas.List.Sums.{sum_by-cons}

sum_more : (x : ℕ) (xs : List ℕ) → sum (x ∷ xs) ≡ x + sum xs
sum_more x xs = sum_by-cons (λ (n : ℕ). n) x xs

within_sum : (counts : List ℕ) (n k : ℕ) → k < n → get_or counts k 0 ≤ sum (take n counts)
within_sum [] n k below = omega arith
within_sum (first ∷ counts) zero k below = absurd (omega arith)
within_sum (first ∷ counts) (suc n) zero below = let more : sum (first ∷ take n counts) ≡ first + sum (take n counts) = sum_more first (take n counts) in omega (arith, more)
within_sum (first ∷ counts) (suc n) (suc k) below =
    let more : sum (first ∷ take n counts) ≡ first + sum (take n counts) = sum_more first (take n counts) in
    let low : get_or counts k 0 ≤ sum (take n counts) = within_sum counts n k (omega arith) in
    omega (arith, low, more)

pub none_before : (counts : List ℕ) (n k rest : ℕ) → sum (take n counts) + rest ≡ 0 → k < n → get_or counts k 0 ≡ 0
none_before counts n k rest none below = omega (arith, within_sum counts n k below, none)
