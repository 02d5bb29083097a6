-- Lists that grow at their ends, and their elements by place.
use Rattle.std.proofs.Common.{◌≡◌, ◌≢◌, ◌⊎◌, inl, inr, ℕ, zero, suc, ◌+◌, ◌<◌, ◌≤◌, List, [], ◌∷◌, ◌++◌, length, map, slice_get, slice_index_or, slice_set, Option, Some, refl, sym, ◌∙◌, ap, subst, append_assoc, arith}
use Rattle.std.specs.List.{All, AllByRecursion, AllZip, range_with_len}
use Rattle.std.proofs.lemmas.Bool.{cases_eq, cases_lt}
use Rattle.std.proofs.lemmas.List.{get_or_append_left, get_or-append-add, get_or_past, length-append, length-map}
use Rattle.std.proofs.lemmas.List.FromFn.{get_or-range_with_len, length-range_with_len}
use Rattle.std.proofs.lemmas.Option.{get_or_from_slice_get, slice_get-get_or, slice_get-map, slice_get_within}
use Rattle.std.specs.Option.{option_map}
use Rattle.std.specs.declared.alloc.Global.{Global}
use Rattle.std.specs.declared.vec.Vec.{Vec}
use Rattle.mc_desk.specs.declared.desk.Operator.{Operator}
use Rattle.mc_desks.specs.Passes.{list_at, lists_of}

-- ---- one element more

pub more_long : {A : Type 0} (xs : List A) (x : A) → length (xs ++ x ∷ []) ≡ length xs + 1
more_long [] x = refl
more_long (y ∷ xs) x = let rest = more_long xs x in omega (arith, rest)

-- the new one is at the end
pub at_end : {A : Type 0} (xs : List A) (x : A) (i : ℕ) (d : A) → i ≡ length xs → slice_index_or (xs ++ x ∷ []) i d ≡ x
at_end xs x i d same = subst (λ (n : ℕ). slice_index_or (xs ++ x ∷ []) n d ≡ x) (omega (arith, same)) (get_or-append-add xs (x ∷ []) 0 d)

-- and all others are where they were
at_other_by : {A : Type 0} (xs : List A) (x : A) (i : ℕ) (d : A) → i ≢ length xs → (i < length xs) ⊎ (length xs ≤ i) → slice_index_or (xs ++ x ∷ []) i d ≡ slice_index_or xs i d
at_other_by xs x i d off (inl low) = get_or_append_left xs (x ∷ []) d i low
at_other_by xs x i d off (inr past) =
    let long = more_long xs x in
    let apart : i ≢ length xs = off in
    get_or_past (xs ++ x ∷ []) i d (omega (arith, past, apart, long)) ∙ sym (get_or_past xs i d past)

pub at_other : {A : Type 0} (xs : List A) (x : A) (i : ℕ) (d : A) → i ≢ length xs → slice_index_or (xs ++ x ∷ []) i d ≡ slice_index_or xs i d
at_other xs x i d off = at_other_by xs x i d off (cases_lt i (length xs))

pub all_one_more : {A : Type 0} (P : A → Type 0) (xs : List A) (x : A) → AllByRecursion P xs → P x → AllByRecursion P (xs ++ x ∷ [])
all_one_more P [] x all one = (one, tt)
all_one_more P (y ∷ xs) x all one = (all.0, all_one_more P xs x all.1 one)

pub zip_one_more : {A B : Type 0} (R : A → B → Type 0) (xs : List A) (ys : List B) (x : A) (y : B) → AllZip R xs ys → R x y → AllZip R (xs ++ x ∷ []) (ys ++ y ∷ [])
zip_one_more R [] [] x y all one = (one, tt)
zip_one_more R [] (w ∷ ys) x y all one = absurd all
zip_one_more R (v ∷ xs) [] x y all one = absurd all
zip_one_more R (v ∷ xs) (w ∷ ys) x y all one = (all.0, zip_one_more R xs ys x y all.1 one)

-- ---- by place

pub of_all : {A : Type 0} (P : A → Type 0) (xs : List A) (k : ℕ) (x : A) → AllByRecursion P xs → slice_get xs k ≡ Some x → P x
of_all P [] k x all at = absurd (cc)
of_all P (w ∷ xs) zero x all at = let same : w ≡ x = cc in subst P same all.0
of_all P (w ∷ xs) (suc k) x all at = of_all P xs k x all.1 at

pub of_each : {A : Type 0} (P : A → Type 0) (xs : List A) (k : ℕ) (x : A) → All P xs → slice_get xs k ≡ Some x → P x
of_each P xs k x all at = subst P (get_or_from_slice_get xs k x x at) (all k x (slice_get_within xs k x at))

pub zip_at : {A B : Type 0} (R : A → B → Type 0) (xs : List A) (ys : List B) (k : ℕ) (x : A) (y : B) → AllZip R xs ys → slice_get xs k ≡ Some x → slice_get ys k ≡ Some y → R x y
zip_at R [] ys k x y all p q = absurd (cc)
zip_at R (v ∷ xs) [] k x y all p q = absurd all
zip_at R (v ∷ xs) (w ∷ ys) zero x y all p q =
    let one : v ≡ x = cc in
    let two : w ≡ y = cc in
    subst (λ s. R x s) two (subst (λ s. R s w) one all.0)
zip_at R (v ∷ xs) (w ∷ ys) (suc k) x y all p q = zip_at R xs ys k x y all.1 p q

-- what holds at each place holds of all
pub zip_from : {A B : Type 0} (R : A → B → Type 0) (xs : List A) (ys : List B) → length ys ≡ length xs → ((k : ℕ) (x : A) (y : B) → slice_get xs k ≡ Some x → slice_get ys k ≡ Some y → R x y) → AllZip R xs ys
zip_from R [] [] long each = tt
zip_from R [] (y ∷ ys) long each = absurd (omega (arith, long))
zip_from R (x ∷ xs) [] long each = absurd (omega (arith, long))
zip_from R (x ∷ xs) (y ∷ ys) long each = (each 0 x y refl refl, zip_from R xs ys (omega (arith, long)) (λ k v w p q. each (suc k) v w p q))

pub zip_long : {A B : Type 0} (R : A → B → Type 0) (xs : List A) (ys : List B) → AllZip R xs ys → length ys ≡ length xs
zip_long R [] [] all = refl
zip_long R [] (y ∷ ys) all = absurd all
zip_long R (x ∷ xs) [] all = absurd all
zip_long R (x ∷ xs) (y ∷ ys) all = let rest = zip_long R xs ys all.1 in omega (arith, rest)

-- a list that is mapped to a range has at each place its number
pub numbered_at : {A : Type 0} (f : A → ℕ) (xs : List A) (n k : ℕ) (x : A) → map f xs ≡ range_with_len 0 n → slice_get xs k ≡ Some x → f x ≡ k
numbered_at f xs n k x is at =
    let within = slice_get_within xs k x at in
    let long : length (map f xs) ≡ length (range_with_len 0 n) = ap (λ (l : List ℕ). length l) is in
    let same = length-map xs f in
    let count = length-range_with_len 0 n in
    let here : slice_index_or (map f xs) k 0 ≡ f x = get_or_from_slice_get (map f xs) k (f x) 0 (slice_get-map f xs k ∙ ap (option_map f) at) in
    let there : slice_index_or (range_with_len 0 n) k 0 ≡ 0 + k = get_or-range_with_len 0 n k 0 (omega (arith, within, long, same, count)) in
    sym here ∙ (ap (λ (l : List ℕ). slice_index_or l k 0) is ∙ (there ∙ omega arith))

-- the first of what comes after some elements
pub first_after : {A : Type 0} (xs : List A) (y : A) (ys : List A) → slice_get (xs ++ y ∷ ys) (length xs) ≡ Some y
first_after [] y ys = refl
first_after (x ∷ xs) y ys = first_after xs y ys

-- what stands at a place within
pub there_is : {A : Type 0} (xs : List A) (k : ℕ) → k < length xs → (x : A) × (slice_get xs k ≡ Some x)
there_is [] k low = absurd (omega (arith, low))
there_is (x ∷ xs) zero low = (x, refl)
there_is (x ∷ xs) (suc k) low = there_is xs k (omega (arith, low))

-- what the list at a place has
pub read_items : (lists : List (Vec Operator Global)) (at : ℕ) (d : Vec Operator Global) → at < length lists → list_at (lists_of lists) at ≡ (slice_index_or lists at d).items
read_items lists at d below =
    get_or_from_slice_get (lists_of lists) at (slice_index_or lists at d).items [] (slice_get-map (λ (w : Vec Operator Global). w.items) lists at ∙ ap (option_map (λ (w : Vec Operator Global). w.items)) (slice_get-get_or lists at d below))
