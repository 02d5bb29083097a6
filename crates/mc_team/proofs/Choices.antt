-- Lists whose elements are chosen one by one.
use Rattle.std.proofs.Common.{◌≡◌, ℕ, zero, suc, List, [], ◌∷◌, Some, length, slice_get, refl, ap, subst, arith}

-- one choice for each pair
pub record Chosen {A B C : Type 0} (P : ℕ → A → B → C → Type 0) (first : List A) (second : List B) : Type 0 where
  pub list : List C
  pub count : length list ≡ length first
  pub each : (i : ℕ) (a : A) (b : B) (c : C) → slice_get first i ≡ Some a → slice_get second i ≡ Some b → slice_get list i ≡ Some c → P i a b c

-- what holds of the first choice and of the others holds of all
chosen_each : {A B C : Type 0} (P : ℕ → A → B → C → Type 0) (x : A) (y : B) (z : C) (xs : List A) (ys : List B) (zs : List C) → P 0 x y z
    → ((i : ℕ) (a : A) (b : B) (c : C) → slice_get xs i ≡ Some a → slice_get ys i ≡ Some b → slice_get zs i ≡ Some c → P (suc i) a b c)
    → (i : ℕ) (a : A) (b : B) (c : C) → slice_get (x ∷ xs) i ≡ Some a → slice_get (y ∷ ys) i ≡ Some b → slice_get (z ∷ zs) i ≡ Some c → P i a b c
chosen_each P x y z xs ys zs one rest zero a b c p q r =
    let same_a : x ≡ a = cc in
    let same_b : y ≡ b = cc in
    let same_c : z ≡ c = cc in
    subst (λ t. P 0 t b c) same_a (subst (λ t. P 0 x t c) same_b (subst (λ t. P 0 x y t) same_c one))
chosen_each P x y z xs ys zs one rest (suc i) a b c p q r = rest i a b c p q r

-- where there is a choice for each pair there is a list of them
pub chosen : {A B C : Type 0} (P : ℕ → A → B → C → Type 0) (first : List A) (second : List B) → length second ≡ length first
    → ((i : ℕ) (a : A) (b : B) → slice_get first i ≡ Some a → slice_get second i ≡ Some b → (c : C) × P i a b c) → Chosen P first second
chosen P [] second count each = record { list = []; count = refl; each = λ i a b c p q r. cc }
chosen P (x ∷ xs) [] count each = absurd (omega arith)
chosen P (x ∷ xs) (y ∷ ys) count each =
    let one = each 0 x y refl refl in
    let rest = chosen (λ (i : ℕ). P (suc i)) xs ys (omega arith) (λ i a b p q. each (suc i) a b p q) in
    record { list = one.0 ∷ rest.list; count = ap suc rest.count; each = chosen_each P x y one.0 xs ys rest.list one.1 rest.each }
