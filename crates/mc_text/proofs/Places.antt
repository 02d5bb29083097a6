-- The place of a name among names that are owned, and lists of names that keep their law.
use Rattle.std.proofs.Common.{◌≡◌, ℕ, zero, suc, ◌+◌, ◌<◌, ◌≤◌, Bool, true, false, not, cond, ltb, List, [], ◌∷◌, ◌++◌, length, map, position, Some, None, refl, ap, arith, inl, inr}
use Rattle.std.specs.Prelude.{IsTrue, slice_index_or}
use Rattle.std.specs.List.{position_or_len, list_any, slice_get}
use Rattle.std.specs.Str.{bytes_eq}
use Rattle.std.proofs.lemmas.Bool.{cases_lt}
use Rattle.std.proofs.lemmas.List.{length-append, length-map, get_or_append_left, get_or_push}
use Rattle.std.proofs.lemmas.List.Sums.{position_or_len_is, fails_before_first}
use Rattle.std.proofs.lemmas.Slice.Eq.{bytes_eq-Decides}
use Rattle.mc_text.specs.NameLists.{AreNames}
use Rattle.mc_text.specs.Spelling.{is_name}

-- the first place in a list that was mapped is that in the list before
position_or_len-map : {A B : Type 0} (f : A → B) (p : B → Bool) (xs : List A) → position_or_len p (map f xs) ≡ position_or_len (λ x. p (f x)) xs
position_or_len-map f p [] = refl
position_or_len-map f p (x ∷ xs) = ap (λ (n : ℕ). cond (not (p (f x))) (1 + n) 0) (position_or_len-map f p xs)

-- the same, with None where no element passes
pub position-map : {A B : Type 0} (f : A → B) (p : B → Bool) (xs : List A) → position p (map f xs) ≡ position (λ x. p (f x)) xs
position-map f p xs = rw (position_or_len-map f p xs, length-map xs f) refl

list_any-past-cons : {A : Type 0} (p : A → Bool) (x : A) (xs : List A) (b : Bool) → p x ≡ b → (ltb (position_or_len p xs) (length xs) ≡ false → list_any p xs ≡ false) → ltb (position_or_len p (x ∷ xs)) (length (x ∷ xs)) ≡ false → list_any p (x ∷ xs) ≡ false
list_any-past-cons p x xs true e others past = absurd (let here : ltb 0 (suc (length xs)) ≡ false = (rw e at past) in grind arith)
list_any-past-cons p x xs false e others past = rw e (others (let later : ltb (1 + position_or_len p xs) (suc (length xs)) ≡ false = (rw e at past) in grind arith))

-- where the first place is past the end, no element passes
list_any-past : {A : Type 0} (p : A → Bool) (xs : List A) → ltb (position_or_len p xs) (length xs) ≡ false → list_any p xs ≡ false
list_any-past p [] past = refl
list_any-past p (x ∷ xs) past = list_any-past-cons p x xs (p x) refl (list_any-past p xs) past

-- where there is no place, no element passes
pub list_any-none : {A : Type 0} (p : A → Bool) (xs : List A) → position p xs ≡ None → list_any p xs ≡ false
list_any-none p xs none = by (ltb (position_or_len p xs) (length xs)) refl
  where
    by : (b : Bool) → ltb (position_or_len p xs) (length xs) ≡ b → list_any p xs ≡ false
    by true e = absurd (let here : Some (position_or_len p xs) ≡ None = (rw e at none) in cc)
    by false e = list_any-past p xs e

-- a name is found at its own place, since none stands twice
pub found_again : (names : List (List ℕ)) (i : ℕ) → i < length names → AreNames names → position (bytes_eq (slice_index_or names i [])) names ≡ Some i
found_again names i within are =
    let name = slice_index_or names i [] in
    let same : bytes_eq name name ≡ true = (bytes_eq-Decides name name).1 refl in
    let place : position_or_len (bytes_eq name) names ≡ i = position_or_len_is (bytes_eq name) names i [] (omega arith) (λ k less. are.distinct k i less within) (λ here. same) in
    let found : ltb i (length names) ≡ true = grind arith in
    rw place (rw found refl)

-- a new name may be added last
pub AreNames-push : (names : List (List ℕ)) (name : List ℕ) → AreNames names → position (bytes_eq name) names ≡ None → IsTrue (is_name name) → AreNames (names ++ name ∷ [])
AreNames-push names name are new spelt = record {
  spelt = λ i within. elim (cases_lt i (length names)) [
    | inl lt ↦ let old = are.spelt i lt in rw (get_or_append_left names (name ∷ []) [] i lt) old
    | inr le ↦ let last : i ≡ length names = omega (arith, length-append names (name ∷ [])) in rw (last, get_or_push names name [] (length names) refl) spelt
  ];
  distinct = λ i j less within. elim (cases_lt j (length names)) [
    | inl lt ↦ rw (get_or_append_left names (name ∷ []) [] j lt, get_or_append_left names (name ∷ []) [] i (omega arith)) (are.distinct i j less lt)
    | inr le ↦
        let last : j ≡ length names = omega (arith, length-append names (name ∷ [])) in
        let past : length names ≤ position_or_len (bytes_eq name) names = grind arith in
        let apart = fails_before_first (bytes_eq name) names i [] (omega arith) in
        rw (last, get_or_push names name [] (length names) refl, get_or_append_left names (name ∷ []) [] i (omega arith)) apart
  ];
}

-- what a look-up by number gives is the name at that place
pub index-get : (names : List (List ℕ)) (i : ℕ) (name : List ℕ) → i < length names → slice_get names i ≡ Some name → slice_index_or names i [] ≡ name
index-get [] i name within found = absurd (omega arith)
index-get (x ∷ xs) zero name within found = cc
index-get (x ∷ xs) (suc i) name within found = index-get xs i name (omega arith) found
