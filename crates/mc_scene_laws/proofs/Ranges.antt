-- Tests of all numbers below a limit, which are computed, and their use.
use Rattle.std.proofs.Common.{◌≡◌, ℕ, ◌+◌, ◌<◌, ◌≤◌, nat_le, Bool, true, false, ◌&&◌, length, refl, ◌∙◌, subst, arith}
use Rattle.std.proofs.lemmas.List.FromFn.{get_or-range_with_len, length-range_with_len}
use Rattle.std.proofs.lemmas.List.Sums.{AllPass-from_list_all}
use Rattle.std.specs.List.{list_all, range_with_len}

-- each number below the limit passes
pub below_limit : (p : ℕ → Bool) (limit n : ℕ) → list_all p (range_with_len 0 limit) ≡ true → n < limit → p n ≡ true
below_limit p limit n all within =
    let inside : n < length (range_with_len 0 limit) = omega (arith, length-range_with_len 0 limit) in
    let place : 0 + n ≡ n = omega arith in
    subst (λ (k : ℕ). p k ≡ true) (get_or-range_with_len 0 limit n 0 within ∙ place) (AllPass-from_list_all p (range_with_len 0 limit) all n 0 inside)

pub both_true : (a b : Bool) → (a && b) ≡ true → (a ≡ true) × (b ≡ true)
both_true true b is = (refl, is)
both_true false b is = absurd (cc)

pub le_true : (n limit : ℕ) → nat_le n limit ≡ true → n ≤ limit
le_true n limit is = grind arith
