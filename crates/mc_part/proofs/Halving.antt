-- Parts in two halves.
use Rattle.std.proofs.Common.{◌≡◌, ℕ, ◌+◌, ◌-◌, ◌<◌, zero, suc, List, [], ◌∷◌, ◌++◌, length, slice_get, Some, refl, sym, ◌∙◌, ap, inl, inr, arith, length-append}
use Rattle.std.proofs.lemmas.Bool.{cases_lt}
use Rattle.std.proofs.lemmas.Option.{slice_get_within}
use Rattle.mc_part.specs.Phases.{EachChanged, EachOf}

pub get_before : {X : Type 0} (xs ys : List X) (i : ℕ) → i < length xs → slice_get (xs ++ ys) i ≡ slice_get xs i
get_before [] ys i within = absurd (omega arith)
get_before (x ∷ xs) ys zero within = refl
get_before (x ∷ xs) ys (suc i) within = get_before xs ys i (omega arith)

pub get_behind : {X : Type 0} (xs ys : List X) (i j : ℕ) → i ≡ length xs + j → slice_get (xs ++ ys) i ≡ slice_get ys j
get_behind [] ys i j at = let same : i ≡ j = omega arith in ap (slice_get ys) same
get_behind (x ∷ xs) ys zero j at = absurd (omega arith)
get_behind (x ∷ xs) ys (suc i) j at = get_behind xs ys i j (omega arith)

pub first_of : {A : Type 0} (P : A → Type 0) (all front back : List A) → all ≡ front ++ back → EachOf P all → EachOf P front
first_of P all front back is each i item at = each i item (ap (λ l. slice_get l i) is ∙ (get_before front back i (slice_get_within front i item at) ∙ at))

pub second_of : {A : Type 0} (P : A → Type 0) (all front back : List A) → all ≡ front ++ back → EachOf P all → EachOf P back
second_of P all front back is each i item at = each (length front + i) item (ap (λ l. slice_get l (length front + i)) is ∙ (get_behind front back (length front + i) i refl ∙ at))

each_first : {A : Type 0} (R : A → A → Type 0) (front back front2 back2 : List A) (i : ℕ) (a b : A) → EachChanged R front front2 → i < length front
    → slice_get (front ++ back) i ≡ Some a → slice_get (front2 ++ back2) i ≡ Some b → R a b
each_first R front back front2 back2 i a b ran below p q =
    let count = ran.count in
    ran.each i a b (sym (get_before front back i below) ∙ p) (sym (get_before front2 back2 i (omega arith)) ∙ q)

each_second : {A : Type 0} (R : A → A → Type 0) (front back front2 back2 : List A) (i j : ℕ) (a b : A) → length front2 ≡ length front → EachChanged R back back2 → i ≡ length front + j
    → slice_get (front ++ back) i ≡ Some a → slice_get (front2 ++ back2) i ≡ Some b → R a b
each_second R front back front2 back2 i j a b count ran is p q =
    ran.each j a b (sym (get_behind front back i j is) ∙ p) (sym (get_behind front2 back2 i j (omega arith)) ∙ q)

pub both_changed : {A : Type 0} (R : A → A → Type 0) (all now front back front2 back2 : List A) → all ≡ front ++ back → now ≡ front2 ++ back2 → EachChanged R front front2 → EachChanged R back back2 → EachChanged R all now
both_changed R all now front back front2 back2 is after first second =
    let one = first.count in
    let two = second.count in
    rw (is, after) (record {
      count = omega (arith, one, two, length-append front back, length-append front2 back2);
      each = λ i a b p q. elim (cases_lt i (length front)) [
        | inl below ↦ each_first R front back front2 back2 i a b first below p q
        | inr past ↦ each_second R front back front2 back2 i (i - length front) a b one second (omega arith) p q
      ];
    })
