-- What is among the signals of an end.
use Rattle.std.proofs.Common.{◌≡◌, ◌⊎◌, inl, inr, ℕ, zero, suc, ◌+◌, List, [], ◌∷◌, ◌++◌, drop, take, Some, true, false, ◌==◌, if◌then◌else◌, slice_get, refl, ap, sym, ◌∙◌, subst, arith}
use Rattle.std.proofs.lemmas.Bool.{cases_eq}
use Rattle.mc_shard.specs.Journals.{EntryState, IsAmong, items_at, sent_at, taken_at, taken_list}
use Rattle.mc_shard.specs.Same.{is_same_at}
use Rattle.mc_shard.specs.contracts.entry.AtEndEq.TheImpl.Laws as at_laws
use Rattle.mc_shard.specs.declared.entry.AtEnd.{AtEnd}
use Rattle.mc_shard.specs.declared.entry.Numbered.{Numbered}
use Rattle.mc_shard_laws.proofs.Lanes.{items_away, items_here}

-- ---- lists

pub among_left : (xs ys : List Numbered) (item : Numbered) → IsAmong xs item → IsAmong (xs ++ ys) item
among_left [] ys item among = absurd among
among_left (x ∷ xs) ys item among = elim among [
  | inl same ↦ inl same
  | inr later ↦ inr (among_left xs ys item later)
]

pub among_right : (xs ys : List Numbered) (item : Numbered) → IsAmong ys item → IsAmong (xs ++ ys) item
among_right [] ys item among = among
among_right (x ∷ xs) ys item among = inr (among_right xs ys item among)

pub among_parts : (xs ys : List Numbered) (item : Numbered) → IsAmong (xs ++ ys) item → IsAmong xs item ⊎ IsAmong ys item
among_parts [] ys item among = inr among
among_parts (x ∷ xs) ys item among = elim among [
  | inl same ↦ inl (inl same)
  | inr later ↦ elim (among_parts xs ys item later) [
    | inl left ↦ inl (inr left)
    | inr right ↦ inr right
  ]
]

drop_next : {X : Type 0} (xs : List X) (i : ℕ) (x : X) → slice_get xs i ≡ Some x → drop i xs ≡ x ∷ drop (suc i) xs
drop_next [] i x there = absurd (cc)
drop_next (y ∷ xs) zero x there = ap (λ z. z ∷ xs) (cc)
drop_next (y ∷ xs) (suc i) x there = drop_next xs i x there

dropped : {X : Type 0} (xs : List X) (i : ℕ) (x : X) → slice_get xs i ≡ Some x → drop i xs ≡ x ∷ drop (i + 1) xs
dropped xs i x there =
    let next : suc i ≡ i + 1 = omega arith in
    drop_next xs i x there ∙ ap (λ (n : ℕ). x ∷ drop n xs) next

-- ---- what an entry sent

pub other_at : (a b : AtEnd) → is_same_at a b ≡ false → a ≡ b → ⊥
other_at a b other same =
    let self : is_same_at a a ≡ true = (at_laws.laws-law).refl a in
    let is : is_same_at a b ≡ true = subst (λ (x : AtEnd). is_same_at a x ≡ true) same self in
    cc

-- it is the first of these, or one of the others
pub first_or_later : (one : AtEnd) (rest : List AtEnd) (wanted : AtEnd) → IsAmong (items_at wanted.end (one ∷ rest)) wanted.item → (one ≡ wanted) ⊎ IsAmong (items_at wanted.end rest) wanted.item
first_or_later one rest wanted among = elim (cases_eq one.end wanted.end) [
  | inl same ↦ elim (subst (λ (l : List Numbered). IsAmong l wanted.item) (items_here wanted.end one rest same) among) [
    | inl is ↦
        let fields : (one.end, one.item) ≡ (wanted.end, wanted.item) = cc in
        inl (ap (λ (t : ℕ × Numbered). record { end = t.0; item = t.1 }) fields)
    | inr later ↦ inr later
  ]
  | inr apart ↦ inr (subst (λ (l : List Numbered). IsAmong l wanted.item) (items_away wanted.end one rest apart) among)
]

pub sent_here : (sent : List AtEnd) (k : ℕ) (wanted : AtEnd) → slice_get sent k ≡ Some wanted → IsAmong (items_at wanted.end sent) wanted.item
sent_here [] k wanted there = absurd (cc)
sent_here (one ∷ sent) zero wanted there =
    let is : one ≡ wanted = cc in
    let here : IsAmong (items_at wanted.end (wanted ∷ sent)) wanted.item =
    subst (λ (l : List Numbered). IsAmong l wanted.item) (sym (items_here wanted.end wanted sent refl)) (inl refl) in
    subst (λ (a : AtEnd). IsAmong (items_at wanted.end (a ∷ sent)) wanted.item) (sym is) here
sent_here (one ∷ sent) (suc k) wanted there = among_right (if one.end == wanted.end then one.item ∷ [] else []) (items_at wanted.end sent) wanted.item (sent_here sent k wanted there)

-- what is among those that are left, where this isn't it
pub sent_left : (sent : List AtEnd) (k : ℕ) (one wanted : AtEnd) → slice_get sent k ≡ Some one → (one ≡ wanted → ⊥)
    → IsAmong (items_at wanted.end (drop k sent)) wanted.item → IsAmong (items_at wanted.end (drop (k + 1) sent)) wanted.item
sent_left sent k one wanted there apart among = elim (first_or_later one (drop (k + 1) sent) wanted (subst (λ (l : List AtEnd). IsAmong (items_at wanted.end l) wanted.item) (dropped sent k one there) among)) [
  | inl same ↦ absurd (apart same)
  | inr later ↦ later
]

-- ---- what journals sent and took

pub sent_in : (journal : List EntryState) (k : ℕ) (entry : EntryState) (end : ℕ) (item : Numbered) → slice_get journal k ≡ Some entry → IsAmong (items_at end entry.sent) item → IsAmong (sent_at end journal) item
sent_in [] k entry end item there among = absurd (cc)
sent_in (one ∷ journal) zero entry end item there among =
    let is : entry ≡ one = cc in
    among_left (items_at end one.sent) (sent_at end journal) item (subst (λ (e : EntryState). IsAmong (items_at end e.sent) item) is among)
sent_in (one ∷ journal) (suc k) entry end item there among = among_right (items_at end one.sent) (sent_at end journal) item (sent_in journal k entry end item there among)

pub sent_later : (journal : List EntryState) (k : ℕ) (entry : EntryState) (end : ℕ) (item : Numbered) → slice_get journal k ≡ Some entry → (IsAmong (items_at end entry.sent) item → ⊥)
    → IsAmong (sent_at end (drop k journal)) item → IsAmong (sent_at end (drop (k + 1) journal)) item
sent_later journal k entry end item there apart among = elim (among_parts (items_at end entry.sent) (sent_at end (drop (k + 1) journal)) item (subst (λ (l : List EntryState). IsAmong (sent_at end l) item) (dropped journal k entry there) among)) [
  | inl here ↦ absurd (apart here)
  | inr later ↦ later
]

taken_next : (journal : List EntryState) (k : ℕ) (entry : EntryState) (end : ℕ) (item : Numbered) → slice_get journal k ≡ Some entry
    → IsAmong (taken_at end (take (suc k) journal)) item → IsAmong (taken_at end (take k journal)) item ⊎ IsAmong (items_at end (taken_list entry.taken)) item
taken_next [] k entry end item there among = absurd (cc)
taken_next (one ∷ journal) zero entry end item there among =
    let is : one ≡ entry = cc in
    elim (among_parts (items_at end (taken_list one.taken)) [] item among) [
      | inl here ↦ inr (subst (λ (e : EntryState). IsAmong (items_at end (taken_list e.taken)) item) is here)
      | inr none ↦ absurd none
    ]
taken_next (one ∷ journal) (suc k) entry end item there among = elim (among_parts (items_at end (taken_list one.taken)) (taken_at end (take (suc k) journal)) item among) [
  | inl first ↦ inl (among_left (items_at end (taken_list one.taken)) (taken_at end (take k journal)) item first)
  | inr later ↦ elim (taken_next journal k entry end item there later) [
    | inl before ↦ inl (among_right (items_at end (taken_list one.taken)) (taken_at end (take k journal)) item before)
    | inr here ↦ inr here
  ]
]

pub taken_more : (journal : List EntryState) (k : ℕ) (entry : EntryState) (end : ℕ) (item : Numbered) → slice_get journal k ≡ Some entry
    → IsAmong (taken_at end (take (k + 1) journal)) item → IsAmong (taken_at end (take k journal)) item ⊎ IsAmong (items_at end (taken_list entry.taken)) item
taken_more journal k entry end item there among =
    let next : k + 1 ≡ suc k = omega arith in
    taken_next journal k entry end item there (subst (λ (n : ℕ). IsAmong (taken_at end (take n journal)) item) next among)
