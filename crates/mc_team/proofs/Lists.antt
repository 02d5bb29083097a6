-- Lists of which one or two elements change.
use Rattle.std.proofs.Common.{◌≡◌, ◌≢◌, ◌⊎◌, inl, inr, ℕ, zero, suc, ◌<◌, ◌≤◌, ◌+◌, Bool, true, false, nat_eq, List, [], ◌∷◌, ◌++◌, Some, length, map, take, slice_get, slice_set, slice_index_or, Option, Result, Ok, Err, OnOk, refl, ap, sym, ◌∙◌, append_assoc, arith}
use Rattle.std.proofs.lemmas.Grind.{common_steps}
use Rattle.std.proofs.lemmas.List.{map_more}

-- what follows from what a result leaves
pub on_ok : {X E : Type 0} (A B : Type 0) (r : Result X E) → (A → B) → OnOk r A → OnOk r B
on_ok A B (Ok x) f h = f h
on_ok A B (Err e) f h = h

dec_by : (same : Bool) (i j : ℕ) → nat_eq i j ≡ same → (i ≡ j) ⊎ (i ≢ j)
dec_by true i j e = inl (grind (arith, common_steps))
dec_by false i j e = inr (grind (arith, common_steps))

-- two numbers are the same or not
pub same_or_not : (i j : ℕ) → (i ≡ j) ⊎ (i ≢ j)
same_or_not i j = dec_by (nat_eq i j) i j refl

-- an option has one value
pub one_of : {X : Type 0} (o : Option X) (x y : X) → o ≡ Some x → o ≡ Some y → x ≡ y
one_of o x y p q = cc

-- ---- two halves

-- what stands in front
pub in_front : {X : Type 0} (front back : List X) (i : ℕ) (d : X) → i < length front → slice_get (front ++ back) i ≡ Some (slice_index_or front i d)
in_front [] back i d h = absurd (omega arith)
in_front (x ∷ xs) back zero d h = refl
in_front (x ∷ xs) back (suc i) d h = in_front xs back i d (omega arith)

-- and first after it
pub first_behind : {X : Type 0} (front back : List X) (d : X) → 0 < length back → slice_get (front ++ back) (length front) ≡ Some (slice_index_or back 0 d)
first_behind [] [] d h = absurd (omega arith)
first_behind [] (y ∷ ys) d h = refl
first_behind (x ∷ xs) back d h = first_behind xs back d h

set_behind : {X : Type 0} (front back : List X) (b : X) → 0 < length back → front ++ slice_set back 0 b ≡ slice_set (front ++ back) (length front) b
set_behind [] back b k = refl
set_behind (x ∷ xs) back b k = ap (λ l. x ∷ l) (set_behind xs back b k)

-- one element of each half
pub set_both : {X : Type 0} (front back : List X) (i : ℕ) (a b : X) → i < length front → 0 < length back
    → slice_set front i a ++ slice_set back 0 b ≡ slice_set (slice_set (front ++ back) i a) (length front) b
set_both [] back i a b h k = absurd (omega arith)
set_both (x ∷ xs) back zero a b h k = ap (λ l. a ∷ l) (set_behind xs back b k)
set_both (x ∷ xs) back (suc i) a b h k = ap (λ l. x ∷ l) (set_both xs back i a b (omega arith) k)

-- two places are set in any order
pub set_apart : {X : Type 0} (xs : List X) (i j : ℕ) (a b : X) → i ≢ j → slice_set (slice_set xs i a) j b ≡ slice_set (slice_set xs j b) i a
set_apart [] i j a b h = refl
set_apart (x ∷ xs) zero zero a b h = absurd (h refl)
set_apart (x ∷ xs) zero (suc j) a b h = refl
set_apart (x ∷ xs) (suc i) zero a b h = refl
set_apart (x ∷ xs) (suc i) (suc j) a b h = ap (λ l. x ∷ l) (set_apart xs i j a b (λ e. h (ap suc e)))

-- ---- what stands where

-- an element of a list that a function was applied to
pub at_some : {X Y : Type 0} (f : X → Y) (xs : List X) (i : ℕ) (x : X) (d : Y) → slice_get xs i ≡ Some x → slice_index_or (map f xs) i d ≡ f x
at_some f [] i x d e = cc
at_some f (y ∷ ys) zero x d e = ap f (cc)
at_some f (y ∷ ys) (suc i) x d e = at_some f ys i x d e

-- what was set stands there
pub set_here : {X : Type 0} (xs : List X) (i : ℕ) (x y : X) → slice_get xs i ≡ Some x → slice_get (slice_set xs i y) i ≡ Some y
set_here [] i x y e = cc
set_here (z ∷ zs) zero x y e = refl
set_here (z ∷ zs) (suc i) x y e = set_here zs i x y e

-- and changes no other
pub set_other : {X Y : Type 0} (f : X → Y) (xs : List X) (i j : ℕ) (y : X) (d : Y) → j ≢ i → slice_index_or (map f (slice_set xs i y)) j d ≡ slice_index_or (map f xs) j d
set_other f [] i j y d off = refl
set_other f (z ∷ zs) zero zero y d off = absurd (off refl)
set_other f (z ∷ zs) zero (suc j) y d off = refl
set_other f (z ∷ zs) (suc i) zero y d off = refl
set_other f (z ∷ zs) (suc i) (suc j) y d off = set_other f zs i j y d (λ e. off (ap suc e))

-- nor what stands at another place
pub get_other : {X : Type 0} (xs : List X) (i j : ℕ) (y : X) → j ≢ i → slice_get (slice_set xs i y) j ≡ slice_get xs j
get_other [] i j y off = refl
get_other (z ∷ zs) zero zero y off = absurd (off refl)
get_other (z ∷ zs) zero (suc j) y off = refl
get_other (z ∷ zs) (suc i) zero y off = refl
get_other (z ∷ zs) (suc i) (suc j) y off = get_other zs i j y (λ e. off (ap suc e))

-- a change that a function doesn't see
pub map_kept : {X Y : Type 0} (f : X → Y) (xs : List X) (i : ℕ) (x y : X) → slice_get xs i ≡ Some x → f y ≡ f x → map f (slice_set xs i y) ≡ map f xs
map_kept f [] i x y e same = refl
map_kept f (z ∷ zs) zero x y e same = grind (arith, common_steps)
map_kept f (z ∷ zs) (suc i) x y e same = ap (λ l. f z ∷ l) (map_kept f zs i x y e same)

-- there is an element at each place
pub there_is : {X : Type 0} (xs : List X) (i : ℕ) → i < length xs → (x : X) × (slice_get xs i ≡ Some x)
there_is [] i h = absurd (omega arith)
there_is (x ∷ xs) zero h = (x, refl)
there_is (x ∷ xs) (suc i) h = there_is xs i (omega arith)

-- it is the one that is read there
pub at_index : {X : Type 0} (xs : List X) (i : ℕ) (d : X) → i < length xs → slice_get xs i ≡ Some (slice_index_or xs i d)
at_index [] i d h = absurd (omega arith)
at_index (x ∷ xs) zero d h = refl
at_index (x ∷ xs) (suc i) d h = at_index xs i d (omega arith)

-- ---- the first elements

-- the first elements are those of the list
pub take_here : {X : Type 0} (xs : List X) (n i : ℕ) (x : X) → slice_get (take n xs) i ≡ Some x → (i < n) × (slice_get xs i ≡ Some x)
take_here [] zero i x e = cc
take_here [] (suc n) i x e = cc
take_here (y ∷ ys) zero i x e = cc
take_here (y ∷ ys) (suc n) zero x e = (omega arith, e)
take_here (y ∷ ys) (suc n) (suc i) x e = let rest = take_here ys n i x e in (omega (arith, rest.0), rest.1)

-- each of them
pub take_there : {X : Type 0} (xs : List X) (n i : ℕ) (x : X) → i < n → slice_get xs i ≡ Some x → slice_get (take n xs) i ≡ Some x
take_there [] n i x below e = cc
take_there (y ∷ ys) zero i x below e = absurd (omega arith)
take_there (y ∷ ys) (suc n) zero x below e = e
take_there (y ∷ ys) (suc n) (suc i) x below e = take_there ys n i x (omega arith) e

-- one more
pub take_one : {X : Type 0} (xs : List X) (n : ℕ) (x : X) → slice_get xs n ≡ Some x → take (n + 1) xs ≡ take n xs ++ x ∷ []
take_one [] n x e = cc
take_one (y ∷ ys) zero x e = grind (arith, common_steps)
take_one (y ∷ ys) (suc n) x e = let more : suc n + 1 ≡ suc (n + 1) = omega arith in rw more (ap (λ l. y ∷ l) (take_one ys n x e))

-- and all
pub take_whole : {X : Type 0} (xs : List X) (n : ℕ) → length xs ≤ n → take n xs ≡ xs
take_whole xs n long = grind (arith, common_steps)

-- what stands in front of a list, and after it
pub get_before : {X : Type 0} (xs ys : List X) (i : ℕ) → i < length xs → slice_get (xs ++ ys) i ≡ slice_get xs i
get_before [] ys i within = absurd (omega arith)
get_before (x ∷ xs) ys zero within = refl
get_before (x ∷ xs) ys (suc i) within = get_before xs ys i (omega arith)

pub get_behind : {X : Type 0} (xs ys : List X) (i j : ℕ) → i ≡ length xs + j → slice_get (xs ++ ys) i ≡ slice_get ys j
get_behind [] ys i j at = let same : i ≡ j = omega arith in ap (slice_get ys) same
get_behind (x ∷ xs) ys zero j at = absurd (omega arith)
get_behind (x ∷ xs) ys (suc i) j at = get_behind xs ys i j (omega arith)
