-- Lists by box, of which one has an entry more at its end.
use Rattle.std.proofs.Common.{◌≡◌, ◌≢◌, ◌<◌, ◌≤◌, ◌+◌, ◌⊎◌, inl, inr, ℕ, zero, suc, Some, List, [], ◌∷◌, ◌++◌, All, length, refl, ap, sym, ◌∙◌, subst, arith}
use Rattle.std.proofs.Math.ListN.{set}
use Rattle.std.proofs.lemmas.Bool.{cases_eq, cases_lt}
use Rattle.std.proofs.lemmas.List.{get_or-set_other, get_or-set_same, length-append, length-set}
use Rattle.std.proofs.lemmas.List.Elements.{All-push}
use Rattle.std.proofs.lemmas.Option.{same_Some, slice_get_within}
use Rattle.std.specs.List.{slice_get}
use Rattle.mc_team.specs.Layouts.{at_end, of_box}

abbrev pub with_added : {A : Type 0} → List (List A) → ℕ → A → List (List A)
with_added lists who x = set lists who (of_box lists who ++ x ∷ [])

-- ---- one list with an entry more

pub get_before : {A : Type 0} → (xs ys : List A) (i : ℕ) → i < length xs → slice_get (xs ++ ys) i ≡ slice_get xs i
get_before [] ys i below = absurd (omega arith)
get_before (x ∷ xs) ys zero below = refl
get_before (x ∷ xs) ys (suc i) below = get_before xs ys i (omega arith)

pub get_last : {A : Type 0} → (xs : List A) (y : A) (i : ℕ) → i ≡ length xs → slice_get (xs ++ y ∷ []) i ≡ Some y
get_last [] y zero is = refl
get_last [] y (suc i) is = absurd (omega arith)
get_last (x ∷ xs) y zero is = absurd (omega arith)
get_last (x ∷ xs) y (suc i) is = get_last xs y i (omega arith)

-- what is read is old, or new
pub get_either : {A : Type 0} → (xs : List A) (y : A) (i : ℕ) (z : A) → slice_get (xs ++ y ∷ []) i ≡ Some z → (slice_get xs i ≡ Some z) ⊎ ((i ≡ length xs) × (y ≡ z))
get_either xs y i z is = elim (cases_lt i (length xs)) [
  | inl below ↦ inl (sym (get_before xs (y ∷ []) i below) ∙ is)
  | inr above ↦
      let inside : i < length (xs ++ y ∷ []) = slice_get_within (xs ++ y ∷ []) i z is in
      let last : i ≡ length xs = omega (arith, length-append xs (y ∷ [])) in
      inr (last, same_Some y z (sym (get_last xs y i last) ∙ is))
]

-- ---- the list of a box

pub box_added : {A : Type 0} → (lists : List (List A)) (who : ℕ) (x : A) → who < length lists → of_box (with_added lists who x) who ≡ of_box lists who ++ x ∷ []
box_added lists who x here = get_or-set_same lists who (of_box lists who ++ x ∷ []) [] here

pub other_box : {A : Type 0} → (lists : List (List A)) (who other : ℕ) (x : A) → other ≢ who → of_box (with_added lists who x) other ≡ of_box lists other
other_box lists who other x off = get_or-set_other lists who other (of_box lists who ++ x ∷ []) [] off

-- what holds of the list of each box
pub each_box : {A : Type 0} → (P : ℕ → List A → Type 0) (lists : List (List A)) (who other : ℕ) (x : A) → who < length lists
    → P who (of_box lists who ++ x ∷ []) → P other (of_box lists other) → P other (of_box (with_added lists who x) other)
each_box {A} P lists who other x here added kept = elim (cases_eq other who) [
  | inl is ↦
      subst (λ (n : ℕ). P n (of_box (with_added lists who x) n)) (sym is)
      (subst (λ (l : List A). P who l) (sym (box_added lists who x here)) added)
  | inr off ↦ subst (λ (l : List A). P other l) (sym (other_box lists who other x off)) kept
]

-- ---- an entry of the list of a box

-- an entry that is there stays
pub entry_kept : {A : Type 0} → (lists : List (List A)) (who : ℕ) (x : A) (other end : ℕ) → who < length lists → end < length (of_box lists other)
    → at_end (with_added lists who x) other end ≡ at_end lists other end
entry_kept {A} lists who x other end here inside = elim (cases_eq other who) [
  | inl is ↦
      subst (λ (n : ℕ). end < length (of_box lists n) → at_end (with_added lists who x) n end ≡ at_end lists n end) (sym is)
      (λ (inside : end < length (of_box lists who)).
      ap (λ (l : List A). slice_get l end) (box_added lists who x here) ∙ get_before (of_box lists who) (x ∷ []) end inside) inside
  | inr off ↦ ap (λ (l : List A). slice_get l end) (other_box lists who other x off)
]

pub entry_stays : {A : Type 0} → (lists : List (List A)) (who : ℕ) (x : A) (other end : ℕ) (y : A) → who < length lists → at_end lists other end ≡ Some y
    → at_end (with_added lists who x) other end ≡ Some y
entry_stays lists who x other end y here is = entry_kept lists who x other end here (slice_get_within (of_box lists other) end y is) ∙ is

-- the new one is at the end
pub entry_added : {A : Type 0} → (lists : List (List A)) (who : ℕ) (x : A) (end : ℕ) → who < length lists → end ≡ length (of_box lists who) → at_end (with_added lists who x) who end ≡ Some x
entry_added {A} lists who x end here is = ap (λ (l : List A). slice_get l end) (box_added lists who x here) ∙ get_last (of_box lists who) x end is

-- so an entry is old, or new
pub record IsAdded (A : Type 0) (lists : List (List A)) (who : ℕ) (x : A) (other end : ℕ) (y : A) : Type 0 where
  pub box : other ≡ who
  pub last : end ≡ length (of_box lists who)
  pub value : x ≡ y

pub old_or_added : {A : Type 0} → (lists : List (List A)) (who : ℕ) (x : A) (other end : ℕ) (y : A) → who < length lists → at_end (with_added lists who x) other end ≡ Some y
    → (at_end lists other end ≡ Some y) ⊎ IsAdded A lists who x other end y
old_or_added {A} lists who x other end y here is = elim (cases_eq other who) [
  | inl same ↦
      let at : at_end (with_added lists who x) who end ≡ Some y = subst (λ (n : ℕ). at_end (with_added lists who x) n end ≡ Some y) same is in
      elim (get_either (of_box lists who) x end y (ap (λ (l : List A). slice_get l end) (sym (box_added lists who x here)) ∙ at)) [
        | inl old ↦ inl (subst (λ (n : ℕ). at_end lists n end ≡ Some y) (sym same) old)
        | inr new ↦ inr (record { box = same; last = new.0; value = new.1 })
      ]
  | inr off ↦ inl (ap (λ (l : List A). slice_get l end) (sym (other_box lists who other x off)) ∙ is)
]

-- ---- how many

pub boxes_added : {A : Type 0} → (lists : List (List A)) (who : ℕ) (x : A) → length (with_added lists who x) ≡ length lists
boxes_added lists who x = length-set lists who (of_box lists who ++ x ∷ [])

-- lists with as many entries by box still have as many
pub counts_added : {A B : Type 0} → (xs : List (List A)) (ys : List (List B)) (who : ℕ) (x : A) (y : B) → who < length xs → length xs ≡ length ys
    → ((other : ℕ) → length (of_box xs other) ≡ length (of_box ys other)) → (other : ℕ) → length (of_box (with_added xs who x) other) ≡ length (of_box (with_added ys who y) other)
counts_added {A} {B} xs ys who x y here boxes same other = elim (cases_eq other who) [
  | inl is ↦
      subst (λ (n : ℕ). length (of_box (with_added xs who x) n) ≡ length (of_box (with_added ys who y) n)) (sym is)
      (ap length (box_added xs who x here)
      ∙ (length-append (of_box xs who) (x ∷ [])
      ∙ (ap (λ (n : ℕ). n + 1) (same who)
      ∙ (sym (length-append (of_box ys who) (y ∷ [])) ∙ ap length (sym (box_added ys who y (subst (λ (n : ℕ). who < n) boxes here)))))))
  | inr off ↦ ap length (other_box xs who other x off) ∙ (same other ∙ ap length (sym (other_box ys who other y off)))
]

-- a list has one entry more, or as many
pub one_more_at_most : {A : Type 0} → (lists : List (List A)) (who other : ℕ) (x : A) → who < length lists → length (of_box (with_added lists who x) other) ≤ length (of_box lists other) + 1
one_more_at_most {A} lists who other x here =
    each_box (λ (n : ℕ) (l : List A). length l ≤ length (of_box lists n) + 1) lists who other x here (omega (arith, length-append (of_box lists who) (x ∷ []))) (omega arith)

-- what holds of all entries
pub all_added : {A : Type 0} → (P : A → Type 0) (lists : List (List A)) (who : ℕ) (x : A) → who < length lists → P x
    → ((other : ℕ) → All P (of_box lists other)) → (other : ℕ) → All P (of_box (with_added lists who x) other)
all_added {A} P lists who x here new old other =
    each_box (λ (n : ℕ) (l : List A). All P l) lists who other x here (All-push P (of_box lists who) x (old who) new) (old other)
