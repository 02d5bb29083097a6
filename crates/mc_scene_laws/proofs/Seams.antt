-- Two neighbours in a list that change.
use Rattle.std.proofs.Common.{◌≡◌, ℕ, zero, suc, List, [], ◌∷◌, ◌++◌, length, slice_index_or, slice_set, refl, ap, arith}

-- the first of two that come after others
pub first_there : {A : Type 0} (xs ys : List A) (a default : A) (n : ℕ) → n ≡ length xs → slice_index_or (xs ++ a ∷ ys) n default ≡ a
first_there [] ys a default zero is = refl
first_there [] ys a default (suc n) is = absurd (omega arith)
first_there (x ∷ xs) ys a default zero is = absurd (omega arith)
first_there (x ∷ xs) ys a default (suc n) is = first_there xs ys a default n (omega arith)

pub second_there : {A : Type 0} (xs ys : List A) (a b default : A) (n : ℕ) → n ≡ length xs → slice_index_or (xs ++ a ∷ b ∷ ys) (suc n) default ≡ b
second_there [] ys a b default zero is = refl
second_there [] ys a b default (suc n) is = absurd (omega arith)
second_there (x ∷ xs) ys a b default zero is = absurd (omega arith)
second_there (x ∷ xs) ys a b default (suc n) is = second_there xs ys a b default n (omega arith)

-- an element that changes by what it is
abbrev pub changed : {A : Type 0} → (A → A) → A → ℕ → List A → List A
changed change default at xs = slice_set xs at (change (slice_index_or xs at default))

-- two that change, one after the other
pub both_changed : {A : Type 0} (xs ys : List A) (a b default : A) (f g : A → A) (n : ℕ) → n ≡ length xs → changed g default (suc n) (changed f default n (xs ++ a ∷ b ∷ ys)) ≡ xs ++ f a ∷ g b ∷ ys
both_changed [] ys a b default f g zero is = refl
both_changed [] ys a b default f g (suc n) is = absurd (omega arith)
both_changed (x ∷ xs) ys a b default f g zero is = absurd (omega arith)
both_changed {A} (x ∷ xs) ys a b default f g (suc n) is = ap (λ (l : List A). x ∷ l) (both_changed xs ys a b default f g n (omega arith))
