-- Lists with an element more at the end, by their elements.
use Rattle.std.proofs.Common.{◌≡◌, ◌⊎◌, inl, inr, ℕ, zero, suc, List, [], ◌∷◌, ◌++◌, length, slice_get, OnOk, Some, Result, Ok, Err, refl, sym, subst, arith}
use Rattle.std.specs.List.{AllByRecursion}

-- the last one, and those before it
pub all_but_last : {A : Type 0} (P : A → Type 0) (xs : List A) (x : A) → AllByRecursion P (xs ++ x ∷ []) → AllByRecursion P xs × P x
all_but_last P [] x all = (tt, all.0)
all_but_last P (y ∷ xs) x all = let rest = all_but_last P xs x all.1 in ((all.0, rest.0), rest.1)

-- what stands in a list with one more stood in it, or is the one more
pub more_at : {A : Type 0} (xs : List A) (x : A) (k : ℕ) (y : A) → slice_get (xs ++ x ∷ []) k ≡ Some y → (slice_get xs k ≡ Some y) ⊎ ((k ≡ length xs) × (x ≡ y))
more_at [] x zero y at = inr (refl, cc)
more_at [] x (suc k) y at = absurd (cc)
more_at (z ∷ xs) x zero y at = inl at
more_at (z ∷ xs) x (suc k) y at = elim (more_at xs x k y at) [
  | inl there ↦ inl there
  | inr here ↦ inr (let n = here.0 in omega (arith, n), here.1)
]

-- all from a place on
pub all_from : {A : Type 0} (P : A → Type 0) (xs rest next : List A) (x : A) → rest ≡ x ∷ next → P x → AllByRecursion P next → AllByRecursion P rest
all_from P xs rest next x is one more = subst (AllByRecursion P) (sym is) (one, more)

-- what holds anyway holds where all went well
pub on_ok : {X E : Type 0} (r : Result X E) (P : Type 0) → P → OnOk r P
on_ok (Ok x) P p = p
on_ok (Err e) P p = tt
