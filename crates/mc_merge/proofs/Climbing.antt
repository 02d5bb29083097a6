-- Stamps that never fall, and items by their list.
use Rattle.std.proofs.Common.{◌≡◌, ◌==◌, if◌then◌else◌, Bool, true, false, ℕ, ◌≤◌, List, [], ◌∷◌, ◌++◌, append_assoc, refl, ap, sym, ◌∙◌, arith}
use Rattle.std.specs.List.{AllByRecursion}
use Rattle.std.proofs.lemmas.Bool.{eq-eqb}
use Rattle.mc_merge.specs.Weaving.{Climb, of_part}

-- ---- items by their list

pub of_append : {X : Type 0} (part : ℕ) (xs ys : List (ℕ × X)) → of_part part (xs ++ ys) ≡ of_part part xs ++ of_part part ys
of_append part [] ys = refl
of_append part (x ∷ xs) ys =
    ap (λ l. (if x.0 == part then x.1 ∷ [] else []) ++ l) (of_append part xs ys) ∙ sym (append_assoc (if x.0 == part then x.1 ∷ [] else []) (of_part part xs) (of_part part ys))

first_of : {X : Type 0} (test : Bool) (P : X → Type 0) (x : X) (xs : List X) → test ≡ true → AllByRecursion P ((if test then x ∷ [] else []) ++ xs) → P x
first_of true P x xs is all = all.0
first_of false P x xs is all = absurd (cc)

rest_of : {X : Type 0} (test : Bool) (P : X → Type 0) (x : X) (xs : List X) → AllByRecursion P ((if test then x ∷ [] else []) ++ xs) → AllByRecursion P xs
rest_of true P x xs all = all.1
rest_of false P x xs all = all

-- what holds of the items of each list holds of all
pub all_of_parts : {X : Type 0} (P : ℕ → X → Type 0) (items : List (ℕ × X)) → ((part : ℕ) → AllByRecursion (P part) (of_part part items)) → AllByRecursion (λ (item : ℕ × X). P item.0 item.1) items
all_of_parts P [] each = tt
all_of_parts P (item ∷ items) each = (
  first_of (item.0 == item.0) (P item.0) item.1 (of_part item.0 items) (eq-eqb item.0 item.0 refl) (each item.0),
  all_of_parts P items (λ part. rest_of (item.0 == part) (P part) item.1 (of_part part items) (each part)),
)

-- ---- stamps

pub all_push : {X : Type 0} (P : X → Type 0) (xs : List X) (x : X) → AllByRecursion P xs → P x → AllByRecursion P (xs ++ x ∷ [])
all_push P [] x all here = (here, tt)
all_push P (y ∷ xs) x all here = (all.0, all_push P xs x all.1 here)

pub climb_push : (stamps : List ℕ) (stamp : ℕ) → Climb stamps → AllByRecursion (λ (before : ℕ). before ≤ stamp) stamps → Climb (stamps ++ stamp ∷ [])
climb_push [] stamp climb before = (tt, tt)
climb_push (first ∷ stamps) stamp climb before = (all_push (λ (later : ℕ). first ≤ later) stamps stamp climb.0 before.0, climb_push stamps stamp climb.1 before.1)
