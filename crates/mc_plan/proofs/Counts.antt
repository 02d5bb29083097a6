-- Counts of what passes a test, in the order of a list.
use Rattle.std.proofs.Common.{◌≡◌, ◌+◌, ◌<◌, ◌≤◌, ℕ, zero, suc, Bool, true, false, cond, List, [], ◌∷◌, ◌++◌, count_by, length, take, refl, ap, ◌∙◌, subst, arith}
use Rattle.std.proofs.Math.ListN.{get_or}
use Rattle.std.proofs.lemmas.List.{take-take}
use Rattle.std.proofs.lemmas.List.Sums.{count_by_more_yes, sum_by-append, sum_by-cons, sum_by-take-le}

-- one more at the front
pub count_cons : {X : Type 0} (p : X → Bool) (x : X) (xs : List X) → count_by p (x ∷ xs) ≡ cond (p x) 1 0 + count_by p xs
count_cons {X} p x xs = sum_by-cons (λ (y : X). cond (p y) 1 0) x xs

-- in two lists
pub count_append : {X : Type 0} (p : X → Bool) (xs ys : List X) → count_by p (xs ++ ys) ≡ count_by p xs + count_by p ys
count_append {X} p xs ys = sum_by-append (λ (y : X). cond (p y) 1 0) xs ys

-- fewer stand before one that passes than before any later place
pub earlier_less : {X : Type 0} (p : X → Bool) (xs : List X) (k s : ℕ) (d : X) → k < s → s ≤ length xs → p (get_or xs k d) ≡ true → count_by p (take k xs) < count_by p (take s xs)
earlier_less {X} p xs k s d before within passes =
    let one : count_by p (take (k + 1) xs) ≡ count_by p (take k xs) + 1 = count_by_more_yes p xs k d (omega arith) passes in
    let some : count_by p (take (k + 1) (take s xs)) ≤ count_by p (take s xs) = sum_by-take-le (λ (y : X). cond (p y) 1 0) (take s xs) (k + 1) in
    let same : take (k + 1) (take s xs) ≡ take (k + 1) xs = take-take (k + 1) s xs (omega arith) in
    let less : count_by p (take (k + 1) xs) ≤ count_by p (take s xs) = subst (λ (l : List X). count_by p l ≤ count_by p (take s xs)) same some in
    omega arith

-- where so many stand before one that passes
pub record Reached (X : Type 0) (p : X → Bool) (xs : List X) (n : ℕ) (d : X) : Type 0 where
  pub at : ℕ
  pub inside : at < length xs
  pub passes : p (get_or xs at d) ≡ true
  pub count : count_by p (take at xs) ≡ n

-- whether the first passes or not
reached_by : {X : Type 0} (here : Bool) (p : X → Bool) (x : X) (xs : List X) (n : ℕ) (d : X) → p x ≡ here → n < cond here 1 0 + count_by p xs
    → ((m : ℕ) → m < count_by p xs → Reached X p xs m d) → Reached X p (x ∷ xs) n d
reached_by true p x xs zero d is below later = record { at = 0; inside = omega arith; passes = is; count = refl }
reached_by true p x xs (suc n) d is below later =
    let found = later n (omega arith) in
    record {
      at = suc found.at;
      inside = omega (arith, found.inside);
      passes = found.passes;
      count = count_cons p x (take found.at xs) ∙ (ap (λ (b : Bool). cond b 1 0 + count_by p (take found.at xs)) is ∙ omega (arith, found.count));
    }
reached_by false p x xs n d is below later =
    let found = later n (omega arith) in
    record {
      at = suc found.at;
      inside = omega (arith, found.inside);
      passes = found.passes;
      count = count_cons p x (take found.at xs) ∙ (ap (λ (b : Bool). cond b 1 0 + count_by p (take found.at xs)) is ∙ omega (arith, found.count));
    }

-- each number below the count is reached
pub reached : {X : Type 0} (p : X → Bool) (xs : List X) (n : ℕ) (d : X) → n < count_by p xs → Reached X p xs n d
reached p [] n d below = absurd (omega arith)
reached p (x ∷ xs) n d below = reached_by (p x) p x xs n d refl (subst (λ (m : ℕ). n < m) (count_cons p x xs) below) (λ m less. reached p xs m d less)
