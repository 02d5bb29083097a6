-- A table that grows by an entry.
use Rattle.std.proofs.Common.{◌≡◌, ◌<◌, ◌+◌, ◌++◌, ℕ, List, [], ◌∷◌, Option, None, Some, inl, inr, length, get_or, take, ap, sym, ◌∙◌, arith}
use Rattle.std.specs.List.{slice_get}
use Rattle.std.proofs.lemmas.Bool.{cases_eq}
use Rattle.std.proofs.lemmas.List.{take_more}
use Rattle.std.proofs.lemmas.Option.{get_or_from_slice_get, slice_get_within}
use Rattle.std.proofs.Math.ListN.{get_or-append}
use Rattle.std.proofs.Math.Seq.{get_or-append_seam}

-- its entries are those of a function, where they were before, and the new one is
pub entry_more : (entries : List (Option ℕ)) (entry : Option ℕ) (n s : ℕ) (of : ℕ → Option ℕ) → length entries ≡ n
    → s < n + 1 → (s < n → get_or entries s None ≡ of s) → entry ≡ of n
    → get_or (entries ++ entry ∷ []) s None ≡ of s
entry_more entries entry n s of long below before last = elim (cases_eq s n) [
  | inl same ↦ ap (λ (k : ℕ). get_or (entries ++ entry ∷ []) k None) (same ∙ sym long)
      ∙ (get_or-append_seam entries entry [] None ∙ (last ∙ ap of (sym same)))
  | inr other ↦ get_or-append entries (entry ∷ []) None s (omega (arith, below, other, long))
      ∙ before (omega (arith, below, other))
]

-- the first so many of a list, and the next one
pub next_taken : {A : Type 0} (list before after : List A) (n : ℕ) (item : A) → before ≡ take n list
    → after ≡ before ++ item ∷ [] → slice_get list n ≡ Some item → after ≡ take (n + 1) list
next_taken {A} list before after n item so_far pushed there =
    let within : n < length list = slice_get_within list n item there in
    let read : get_or list n item ≡ item = get_or_from_slice_get list n item item there in
    pushed
    ∙ (ap (λ (l : List A). l ++ item ∷ []) so_far
    ∙ sym (take_more list n item within ∙ ap (λ (x : A). take n list ++ x ∷ []) read))
