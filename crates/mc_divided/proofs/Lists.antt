-- Lists of which one or two elements change.
use Rattle.std.proofs.Common.{◌≡◌, ◌≢◌, ◌⊎◌, inl, inr, ℕ, zero, suc, ◌<◌, Bool, true, false, nat_eq, List, [], ◌∷◌, ◌++◌, Some, length, slice_get, slice_set, slice_index_or, Option, Result, Ok, Err, OnOk, refl, ap, sym, ◌∙◌, arith}
use Rattle.std.proofs.lemmas.Grind.{common_steps}
use Rattle.std.proofs.lemmas.Option.{slice_get-get_or}

-- what follows from what a result leaves
pub on_ok : {X E : Type 0} {A B : Type 0} (r : Result X E) → (A → B) → OnOk r A → OnOk r B
on_ok (Ok x) f h = f h
on_ok (Err e) f h = h

dec_by : (same : Bool) (i j : ℕ) → nat_eq i j ≡ same → (i ≡ j) ⊎ (i ≢ j)
dec_by true i j e = inl (grind (arith, common_steps))
dec_by false i j e = inr (grind (arith, common_steps))

-- two numbers are the same or not
pub same_or_not : (i j : ℕ) → (i ≡ j) ⊎ (i ≢ j)
same_or_not i j = dec_by (nat_eq i j) i j refl

-- an option has one value
pub one_of : {X : Type 0} (o : Option X) (x y : X) → o ≡ Some x → o ≡ Some y → x ≡ y
one_of o x y p q = cc

-- ---- two halves

in_front : {X : Type 0} (front back : List X) (i : ℕ) (d : X) → i < length front → slice_get (front ++ back) i ≡ Some (slice_index_or front i d)
in_front [] back i d h = absurd (omega arith)
in_front (x ∷ xs) back zero d h = refl
in_front (x ∷ xs) back (suc i) d h = in_front xs back i d (omega arith)

first_behind : {X : Type 0} (front back : List X) (d : X) → 0 < length back → slice_get (front ++ back) (length front) ≡ Some (slice_index_or back 0 d)
first_behind [] [] d h = absurd (omega arith)
first_behind [] (y ∷ ys) d h = refl
first_behind (x ∷ xs) back d h = first_behind xs back d h

-- the elements of two halves
pub of_front : {X : Type 0} (all front back : List X) (i : ℕ) (d : X) → all ≡ front ++ back → i < length front → slice_get all i ≡ Some (slice_index_or front i d)
of_front {X} all front back i d whole within = ap (λ (l : List X). slice_get l i) whole ∙ in_front front back i d within

pub of_back : {X : Type 0} (all front back : List X) (i : ℕ) (d : X) → all ≡ front ++ back → length front ≡ i → 0 < length back → slice_get all i ≡ Some (slice_index_or back 0 d)
of_back {X} all front back i d whole len some = ap (λ (l : List X). slice_get l i) whole ∙ (ap (λ (n : ℕ). slice_get (front ++ back) n) (sym len) ∙ first_behind front back d some)

set_behind : {X : Type 0} (front back : List X) (b : X) → 0 < length back → front ++ slice_set back 0 b ≡ slice_set (front ++ back) (length front) b
set_behind [] back b k = refl
set_behind (x ∷ xs) back b k = ap (λ l. x ∷ l) (set_behind xs back b k)

-- one element of each half
pub set_both : {X : Type 0} (front back : List X) (i : ℕ) (a b : X) → i < length front → 0 < length back
    → slice_set front i a ++ slice_set back 0 b ≡ slice_set (slice_set (front ++ back) i a) (length front) b
set_both [] back i a b h k = absurd (omega arith)
set_both (x ∷ xs) back zero a b h k = ap (λ l. a ∷ l) (set_behind xs back b k)
set_both (x ∷ xs) back (suc i) a b h k = ap (λ l. x ∷ l) (set_both xs back i a b (omega arith) k)

-- two places are set in any order
pub set_apart : {X : Type 0} (xs : List X) (i j : ℕ) (a b : X) → i ≢ j → slice_set (slice_set xs i a) j b ≡ slice_set (slice_set xs j b) i a
set_apart [] i j a b h = refl
set_apart (x ∷ xs) zero zero a b h = absurd (h refl)
set_apart (x ∷ xs) zero (suc j) a b h = refl
set_apart (x ∷ xs) (suc i) zero a b h = refl
set_apart (x ∷ xs) (suc i) (suc j) a b h = ap (λ l. x ∷ l) (set_apart xs i j a b (λ e. h (ap suc e)))

-- ---- what stands where

-- what was set stands there
pub set_here : {X : Type 0} (xs : List X) (i : ℕ) (x y : X) → slice_get xs i ≡ Some x → slice_get (slice_set xs i y) i ≡ Some y
set_here [] i x y e = cc
set_here (z ∷ zs) zero x y e = refl
set_here (z ∷ zs) (suc i) x y e = set_here zs i x y e

-- and nothing changes at another place
pub get_other : {X : Type 0} (xs : List X) (i j : ℕ) (y : X) → j ≢ i → slice_get (slice_set xs i y) j ≡ slice_get xs j
get_other [] i j y off = refl
get_other (z ∷ zs) zero zero y off = absurd (off refl)
get_other (z ∷ zs) zero (suc j) y off = refl
get_other (z ∷ zs) (suc i) zero y off = refl
get_other (z ∷ zs) (suc i) (suc j) y off = get_other zs i j y (λ e. off (ap suc e))

pub set_length : {X : Type 0} (xs : List X) (i : ℕ) (y : X) → length (slice_set xs i y) ≡ length xs
set_length [] i y = refl
set_length (z ∷ zs) zero y = refl
set_length (z ∷ zs) (suc i) y = ap suc (set_length zs i y)

pub there_at : {X : Type 0} (xs : List X) (i : ℕ) (d : X) → i < length xs → slice_get xs i ≡ Some (slice_index_or xs i d)
there_at xs i d inside = slice_get-get_or xs i d inside
