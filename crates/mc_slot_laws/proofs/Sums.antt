-- Sums over the numbers below a count, and how they change.
use Rattle.std.proofs.Common.{◌≡◌, ◌≢◌, ◌<◌, ◌≤◌, ◌+◌, inl, inr, ℕ, zero, suc, refl, ap, subst, arith, add-one}
use Rattle.std.proofs.lemmas.Bool.{cases_eq, cases_lt}
use Rattle.mc_slot_laws.specs.Sums.{total}

-- equal values have equal sums
pub total_same : (f g : ℕ → ℕ) (k : ℕ) → ((t : ℕ) → t < k → f t ≡ g t) → total f k ≡ total g k
total_same f g zero same = omega arith
total_same f g (suc k) same = omega (arith, same k (omega arith), total_same f g k (λ t below. same t (omega arith)))

-- where one value changes, the sum changes by as much
pub total_one : (f g : ℕ → ℕ) (k s : ℕ) → s < k → ((t : ℕ) → t < k → t ≢ s → f t ≡ g t) → total f k + g s ≡ total g k + f s
total_one f g zero s inside same = absurd (omega arith)
total_one f g (suc k) s inside same = elim (cases_eq k s) [
  | inl is ↦
      let rest : total f k ≡ total g k = total_same f g k (λ t below. same t (omega arith) (omega arith)) in
      omega (arith, rest, ap f is, ap g is)
  | inr apart ↦
      let rest : total f k + g s ≡ total g k + f s = total_one f g k s (omega arith) (λ t below. same t (omega arith)) in
      omega (arith, rest, same k (omega arith) apart)
]

-- no value, no sum
pub total_none : (f : ℕ → ℕ) (k : ℕ) → ((t : ℕ) → t < k → f t ≡ 0) → total f k ≡ 0
total_none f zero none = refl
total_none f (suc k) none = omega (arith, none k (omega arith), total_none f k (λ t below. none t (omega arith)))

-- a longer sum is no smaller
pub total_grows : (f : ℕ → ℕ) (k n : ℕ) → k ≤ n → total f k ≤ total f n
total_grows f k zero within = let same : 0 ≡ k = omega arith in subst (λ (j : ℕ). total f j ≤ 0) same (omega arith)
total_grows f k (suc n) within = elim (cases_lt k (suc n)) [
  | inl below ↦ let rest : total f k ≤ total f n = total_grows f k n (omega arith) in omega (arith, rest)
  | inr at ↦ let same : suc n ≡ k = omega arith in subst (λ (j : ℕ). total f j ≤ f n + total f n) same (omega arith)
]

pub total_next : (f : ℕ → ℕ) (k : ℕ) → total f (k + 1) ≡ f k + total f k
total_next f k = rw add-one refl
