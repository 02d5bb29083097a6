-- Sums over the numbers below a count, and how they change; what lists weigh.
use Rattle.std.proofs.Common.{◌≡◌, ◌≢◌, ◌<◌, ◌≤◌, ◌+◌, ◌*◌, inl, inr, ℕ, zero, suc, List, [], ◌∷◌, ◌++◌, length, refl, ap, sym, arith}
use Rattle.std.proofs.Math.Nat.{mul-le-mul_left}
use Rattle.std.proofs.lemmas.Bool.{cases_eq, cases_lt}
use Rattle.mc_signal.specs.declared.Signal.{Signal}
use Rattle.mc_signal.specs.declared.Signal.TheVariants.{Open, Oack, Close, Closeack, Describe, Select}
use Rattle.mc_slot_laws.specs.Weights.{weight, weights}
use Rattle.mc_slot_laws.specs.Sums.{total}
use Rattle.mc_slot_laws.proofs.Sums.{total_one}

-- ---- sums

-- where two values change, the sum changes by as much as both
pub total_two : (f g : ℕ → ℕ) (k s p : ℕ) → s < k → p < k → p ≢ s → ((t : ℕ) → t < k → t ≢ s → t ≢ p → f t ≡ g t) → total f k + (g s + g p) ≡ total g k + (f s + f p)
total_two f g zero s p in_s in_p differ same = absurd (omega arith)
total_two f g (suc k) s p in_s in_p differ same = elim (cases_eq k s) [
  | inl is ↦
      let rest : total f k + g p ≡ total g k + f p = total_one f g k p (omega arith) (λ t below. same t (omega arith) (omega arith)) in
      omega (arith, rest, ap f is, ap g is)
  | inr apart ↦ elim (cases_eq k p) [
    | inl is ↦
        let rest : total f k + g s ≡ total g k + f s = total_one f g k s (omega arith) (λ t below other. same t (omega arith) other (omega arith)) in
        omega (arith, rest, ap f is, ap g is)
    | inr beyond ↦
        let rest : total f k + (g s + g p) ≡ total g k + (f s + f p) = total_two f g k s p (omega arith) (omega arith) differ (λ t below. same t (omega arith)) in
        omega (arith, rest, same k (omega arith) apart beyond)
  ]
]

-- where each value is at most c times another and 1, the sum is at most c times the other sum and the count
pub total_most : (f g : ℕ → ℕ) (c k : ℕ) → ((t : ℕ) → t < k → f t ≤ c * g t + c) → total f k ≤ c * (total g k + k)
total_most f g c zero each = omega arith
total_most f g c (suc k) each = omega (arith, each k (omega arith), total_most f g c k (λ t below. each t (omega arith)))

-- smaller values have a smaller sum
pub total_le : (f g : ℕ → ℕ) (k : ℕ) → ((t : ℕ) → t < k → f t ≤ g t) → total f k ≤ total g k
total_le f g zero each = omega arith
total_le f g (suc k) each = omega (arith, each k (omega arith), total_le f g k (λ t below. each t (omega arith)))

-- no value, no sum
pub total_zero : (k : ℕ) → total (λ (t : ℕ). 0) k ≡ 0
total_zero zero = refl
total_zero (suc k) = omega (arith, total_zero k)

-- a sum of sums of two
pub total_plus : (f g : ℕ → ℕ) (k : ℕ) → total (λ (t : ℕ). f t + g t) k ≡ total f k + total g k
total_plus f g zero = omega arith
total_plus f g (suc k) = omega (arith, total_plus f g k)

-- each value is within the sum
pub total_has : (f : ℕ → ℕ) (k s : ℕ) → s < k → f s ≤ total f k
total_has f zero s inside = absurd (omega arith)
total_has f (suc k) s inside = elim (cases_lt s k) [
  | inl below ↦ omega (arith, total_has f k s below)
  | inr above ↦ let same : s ≡ k = omega arith in omega (arith, ap f same)
]

-- a sum of sums goes by rows or by columns
pub total_swap : (f : ℕ → ℕ → ℕ) (k n : ℕ) → total (λ (s : ℕ). total (f s) n) k ≡ total (λ (j : ℕ). total (λ (s : ℕ). f s j) k) n
total_swap f zero n = sym (total_zero n)
total_swap f (suc k) n =
    let rest : total (λ (s : ℕ). total (f s) n) k ≡ total (λ (j : ℕ). total (λ (s : ℕ). f s j) k) n = total_swap f k n in
    omega (arith, rest, total_plus (f k) (λ (j : ℕ). total (λ (s : ℕ). f s j) k) n)

-- marks of which no two stand at different places are one at most
pub total_once : (f : ℕ → ℕ) (k : ℕ) → ((t : ℕ) → t < k → f t ≤ 1) → ((s t : ℕ) → s < k → t < k → 1 ≤ f s → 1 ≤ f t → s ≡ t) → total f k ≤ 1
total_once f zero each once = omega arith
total_once f (suc k) each once = elim (cases_lt (f k) 1) [
  | inl unmarked ↦ omega (arith, unmarked, total_once f k (λ t below. each t (omega arith)) (λ s t one two. once s t (omega arith) (omega arith)))
  | inr marked ↦
      let others : total f k ≤ total (λ (t : ℕ). 0) k = total_le f (λ (t : ℕ). 0) k
      (λ t below. elim (cases_lt (f t) 1) [
        | inl unmarked ↦ omega arith
        | inr too ↦ let same : t ≡ k = once t k (omega arith) (omega arith) (omega arith) (omega arith) in absurd (omega arith)
      ]) in
      omega (arith, others, total_zero k, each k (omega arith))
]

-- a sum from its first value on
pub total_front : (f : ℕ → ℕ) (k : ℕ) → total f (suc k) ≡ f 0 + total (λ (t : ℕ). f (suc t)) k
total_front f zero = omega arith
total_front f (suc k) = omega (arith, total_front f k)

-- ---- weights

-- one list after another weighs as much as both
pub weights-append : (n : ℕ) (first second : List Signal) → weights n (first ++ second) ≡ weights n first + weights n second
weights-append n [] second = omega arith
weights-append n (signal ∷ first) second = omega (arith, weights-append n first second)

-- powers rise
cube_most : (n : ℕ) → 1 ≤ n → n ≤ n * (n * n)
cube_most n some =
    let one : n * 1 ≤ n * n = mul-le-mul_left n some in
    let two : n * n * 1 ≤ n * n * n = mul-le-mul_left (n * n) some in
    omega (arith, one, two)

-- no signal weighs more than an open
weight_most : (n : ℕ) (signal : Signal) → 1 ≤ n → weight n signal ≤ n * (n * n)
weight_most n (Open medium d) some = omega arith
weight_most n (Oack d) some = let one : n * n * 1 ≤ n * n * n = mul-le-mul_left (n * n) some in omega (arith, one)
weight_most n (Describe d) some = omega (arith, cube_most n some)
weight_most n Close some = omega (arith, cube_most n some)
weight_most n (Select s) some = omega (arith, some, cube_most n some)
weight_most n Closeack some = omega (arith, some, cube_most n some)

-- so a list weighs at most as many opens as it has signals
pub weights_most : (n : ℕ) → 1 ≤ n → (signals : List Signal) → weights n signals ≤ n * (n * n) * length signals
weights_most n some [] = omega arith
weights_most n some (signal ∷ signals) = omega (arith, weight_most n signal some, weights_most n some signals)
