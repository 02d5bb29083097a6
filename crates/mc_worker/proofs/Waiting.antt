-- Boxes of channel ends, and the set of those that have something.
use Rattle.std.proofs.Common.{◌≡◌, ◌≢◌, zero, ℕ, suc, ◌+◌, ◌*◌, ◌%◌, ◌^◌, ◌<◌, ◌≤◌, Bool, true, false, ◌==◌, ◌&&◌, ◌||◌, ◌↔◌, not, cond, if◌then◌else◌, nat_lt, count_by, count_ones, get_or, map, List, [], ◌∷◌, length, slice_set, slice_index_or, Option, Some, None, refl, sym, ◌∙◌, ap, inl, inr, arith, w64, ◌++◌}
use Rattle.std.specs.Int.{bit_at, bit_not, trailing_zeros}
use Rattle.std.specs.Int.Bits.{bit_and}
use Rattle.std.specs.Int.RustNames.{bit_or}
use Rattle.std.proofs.lemmas.Bool.{cases_eq, cases_lt}
use Rattle.std.proofs.lemmas.List.{length-map, length-set}
use Rattle.std.proofs.lemmas.Nat.{and_le_l}
use Rattle.std.proofs.lemmas.Nat.Bits.{bit_at-lt, bit_at-trailing_zeros, bit_at-zero, bit_at_above, bit_at_clear_other, bit_at_clear_same, bit_at_set_other, bit_at_set_same, same_from_bits}
use Rattle.std.proofs.lemmas.Simd.{bit_mask_l, ones-mask_l}
use lib.Lanes.{mask_l}
use Rattle.mc_lane.specs.Queue.{Queue, TakesFirst}
use Rattle.mc_signal.specs.declared.Tagged.{Tagged}
use Rattle.mc_worker.specs.Boxes.{AreEmpty, AreWaiting, box_of, has_items, items_of, spare_at}
use Rattle.mc_worker.specs.EndSets.{contains_end}
use Rattle.mc_worker.specs.declared.end_set.EndSet.{EndSet}
use Rattle.mc_worker.proofs.EndSteps.{at_map, at_other, at_set}

some_there : {X : Type 0} (xs : List X) → nat_lt 0 (suc (length xs)) ≡ false → ⊥
some_there xs is = grind arith

-- a box that has nothing
pub nothing_in : {X : Type 0} (items : List X) → has_items items ≡ false → items ≡ []
nothing_in [] is = refl
nothing_in (x ∷ xs) is = absurd (some_there xs is)

-- and one that has something
pub something_in : {X : Type 0} (items : List X) → has_items items ≡ true → items ≢ []
something_in [] is = absurd (cc)
something_in (x ∷ xs) is = λ none. absurd (cc)

-- the box of an end, of queues
pub box_at_end : {X : Type 0} (queues : List (Queue X)) (i : ℕ) (queue : Queue X) → i < length queues → queue ≡ slice_index_or queues i queue → box_of (items_of queues) i ≡ queue.items
box_at_end {X} queues i queue inside is = at_map (λ (q : Queue X). q.items) queues i queue [] inside is

pub box_set : {X : Type 0} (queues : List (Queue X)) (i : ℕ) (queue : Queue X) → i < length queues → box_of (items_of (slice_set queues i queue)) i ≡ queue.items
box_set {X} queues i queue inside = at_set (λ (q : Queue X). q.items) queues i queue [] inside

pub box_else : {X : Type 0} (queues : List (Queue X)) (i s : ℕ) (queue : Queue X) → s ≢ i → box_of (items_of (slice_set queues i queue)) s ≡ box_of (items_of queues) s
box_else {X} queues i s queue off = at_other (λ (q : Queue X). q.items) queues i s queue [] off

-- there are as many boxes as before
pub box_count : {X : Type 0} (queues : List (Queue X)) (i : ℕ) (queue : Queue X) → length (items_of (slice_set queues i queue)) ≡ length (items_of queues)
box_count {X} queues i queue =
    let items = λ (q : Queue X). q.items in
    length-map (slice_set queues i queue) items ∙ (length-set queues i queue ∙ sym (length-map queues items))

-- one empty queue more
pub empty_more : {X : Type 0} (queues : List (Queue X)) (queue : Queue X) → AreEmpty (items_of queues) → queue.items ≡ [] → AreEmpty (items_of (queues ++ queue ∷ []))
empty_more [] queue all none zero = none
empty_more [] queue all none (suc e) = refl
empty_more (q ∷ queues) queue all none zero = all zero
empty_more (q ∷ queues) queue all none (suc e) = empty_more queues queue (λ k. all (suc k)) none e

-- ---- which ends have something

none_there : (ys : List Tagged) → ys ≡ [] → has_items ys ≡ true → ⊥
none_there [] none some = absurd (false_true some)
  where
    false_true : nat_lt 0 0 ≡ true → ⊥
    false_true is = grind arith
none_there (y ∷ ys) none some = cc

some_in : (ys : List Tagged) → nat_lt 0 (suc (length ys)) ≡ true
some_in ys = grind arith

-- a box was emptied, and its end left the set
pub waiting_less : (old new : List (List Tagged)) (before after : EndSet) (at : ℕ) → AreWaiting old before → ((e : ℕ) → e ≢ at → box_of new e ≡ box_of old e) → box_of new at ≡ []
    → ((e : ℕ) → contains_end after e ≡ (not (e == at) && contains_end before e)) → AreWaiting new after
waiting_less old new before after at are others none less e = elim (cases_eq e at) [
  | inl same ↦ less e ∙ rw (same, none) (grind arith)
  | inr off ↦ less e ∙ rw (others e off, are e) (grind arith)
]

-- a box was changed, and its end is in the set just where it has something now
pub waiting_as : (old new : List (List Tagged)) (before after : EndSet) (at : ℕ) (waits : Bool) → AreWaiting old before → ((e : ℕ) → e ≢ at → box_of new e ≡ box_of old e) → waits ≡ has_items (box_of new at)
    → ((e : ℕ) → contains_end after e ≡ (if e == at then waits else contains_end before e)) → AreWaiting new after
waiting_as old new before after at waits are others is set e = elim (cases_eq e at) [
  | inl same ↦ set e ∙ rw (same, is) (grind arith)
  | inr off ↦ set e ∙ rw (others e off, are e) (grind arith)
]

-- one end more was looked at
pub waiting_so_far : (boxes : List (List Tagged)) (before after : EndSet) (at : ℕ) (waits : Bool) → ((e : ℕ) → contains_end before e ≡ (nat_lt e at && has_items (box_of boxes e))) → waits ≡ has_items (box_of boxes at)
    → ((e : ℕ) → contains_end after e ≡ (if e == at then waits else contains_end before e)) → (e : ℕ) → contains_end after e ≡ (nat_lt e (at + 1) && has_items (box_of boxes e))
waiting_so_far boxes before after at waits are is set e = elim (cases_eq e at) [
  | inl same ↦ set e ∙ rw (same, is) (grind arith)
  | inr off ↦
      let other : (e == at) ≡ false = grind arith in
      let below : nat_lt e (at + 1) ≡ nat_lt e at = grind arith in
      set e ∙ rw (other, below) (are e)
]

-- a box that still has something had something
pub waiting_still : (old new : List (List Tagged)) (waiting : EndSet) (at : ℕ) (taken : Option Tagged) → AreWaiting old waiting → ((e : ℕ) → e ≢ at → box_of new e ≡ box_of old e)
    → TakesFirst taken (box_of old at) (box_of new at) → has_items (box_of new at) ≡ true → AreWaiting new waiting
waiting_still old new waiting at taken are others takes some e = elim (cases_eq e at) [
  | inl same ↦ are e ∙ rw same (had taken (box_of old at) (box_of new at) takes some ∙ sym some)
  | inr off ↦ are e ∙ ap has_items (sym (others e off))
]
  where
    had : (r : Option Tagged) (xs ys : List Tagged) → TakesFirst r xs ys → has_items ys ≡ true → has_items xs ≡ true
    had None xs ys takes some = absurd (none_there ys takes.1 some)
    had (Some x) xs ys takes some = rw takes (some_in ys)

-- no end is in the set just where nothing waits
pub none_waits : {P : Type 0} (boxes : List (List Tagged)) (waiting : EndSet) → AreWaiting boxes waiting → (P ↔ ((e : ℕ) → contains_end waiting e ≡ false)) → P ↔ AreEmpty boxes
none_waits {P} boxes waiting are says = (λ p e. nothing_in (box_of boxes e) (sym (are e) ∙ says.0 p e), λ empty. says.1 (λ e. are e ∙ ap has_items (empty e)))

bit_by_test : (n : ℕ) → n < 2 → n ≡ cond (n == 1) 1 0
bit_by_test n small = elim (cases_eq n 1) [
  | inl same ↦ rw same refl
  | inr off ↦ let none : n ≡ 0 = omega arith in rw none refl
]

has_at : (boxes : List (List Tagged)) (i : ℕ) → get_or (map has_items boxes) i false ≡ has_items (box_of boxes i)
has_at [] i = refl
has_at (box ∷ boxes) zero = refl
has_at (box ∷ boxes) (suc i) = has_at boxes i

-- the set's word has as many ones as boxes have something
pub count_waiting : (boxes : List (List Tagged)) (waiting : EndSet) → AreWaiting boxes waiting → count_ones waiting.bits ≡ count_by has_items boxes
count_waiting boxes waiting are =
    let same : waiting.bits ≡ mask_l (map has_items boxes) =
    same_from_bits waiting.bits (mask_l (map has_items boxes))
    (λ i. bit_by_test (bit_at waiting.bits i) (bit_at-lt waiting.bits i) ∙ (ap (λ (b : Bool). cond b 1 0) (are i ∙ sym (has_at boxes i)) ∙ sym (bit_mask_l (map has_items boxes) i))) in
    ap count_ones same ∙ ones-mask_l has_items boxes

-- ---- room

spare_by : {X : Type 0} (same : Bool) (queues : List (Queue X)) (i e less : ℕ) (old new : Queue X) → (e == i) ≡ same → i < length queues → old ≡ slice_index_or queues i old → old.spare ≤ new.spare + less
    → spare_at queues e ≤ spare_at (slice_set queues i new) e + less
spare_by {X} true queues i e less old new is inside here room =
    let at : e ≡ i = grind arith in
    rw (at, at_set (λ (q : Queue X). q.spare) queues i new 0 inside, at_map (λ (q : Queue X). q.spare) queues i old 0 inside here) room
spare_by {X} false queues i e less old new is inside here room =
    let off : e ≢ i = grind arith in
    rw (at_other (λ (q : Queue X). q.spare) queues i e new 0 off) (omega arith)

-- a change of one queue costs each at most so much room
pub spare_kept : {X : Type 0} (queues : List (Queue X)) (i less : ℕ) (old new : Queue X) → i < length queues → old ≡ slice_index_or queues i old → old.spare ≤ new.spare + less → (e : ℕ)
    → spare_at queues e ≤ spare_at (slice_set queues i new) e + less
spare_kept queues i less old new inside here room e = spare_by (e == i) queues i e less old new refl inside here room

-- ---- the bits of a set

-- a bit more
pub inserted : (n k end : ℕ) → k < 64 → (bit_at (bit_or n (1 * 2 ^ k % 2 ^ 64)) end == 1) ≡ (end == k || bit_at n end == 1)
inserted n k end within = elim (cases_eq end k) [
  | inl same ↦ rw (same, bit_at_set_same w64 n k within) (grind arith)
  | inr off ↦ rw (bit_at_set_other w64 n k within end off) (grind arith)
]

-- a bit less
pub removed : (n k end : ℕ) → k < 64 → n < 2 ^ 64 → (bit_at (bit_and n (bit_not w64 (1 * 2 ^ k % 2 ^ 64))) end == 1) ≡ (not (end == k) && bit_at n end == 1)
removed n k end within fits = elim (cases_lt end 64) [
  | inl inside ↦ elim (cases_eq end k) [
    | inl same ↦ rw (same, bit_at_clear_same w64 n k within) (grind arith)
    | inr off ↦ rw (bit_at_clear_other w64 n k within end inside off) (grind arith)
  ]
  | inr past ↦ rw (bit_at_above n 64 end fits past, bit_at_above (bit_and n (bit_not w64 (1 * 2 ^ k % 2 ^ 64))) 64 end (let less = and_le_l n (bit_not w64 (1 * 2 ^ k % 2 ^ 64)) in omega (arith, less, fits)) past) (grind arith)
]

-- a bit set as is asked
pub set_on : (test is_in before : Bool) → is_in ≡ true → (test || before) ≡ (if test then is_in else before)
set_on true is_in before on = sym on
set_on false is_in before on = refl

pub set_off : (test is_in before : Bool) → is_in ≡ false → (not test && before) ≡ (if test then is_in else before)
set_off true is_in before off = sym off
set_off false is_in before off = refl

-- a word is 0 just where it has no bit
pub no_bit : (n : ℕ) → n < 2 ^ 64 → ((n == 0) ≡ true) ↔ ((k : ℕ) → (bit_at n k == 1) ≡ false)
no_bit n fits = (
  λ is k. let zero : n ≡ 0 = grind (arith, is) in ap (λ (x : ℕ). x == 1) (ap (λ (m : ℕ). bit_at m k) zero ∙ bit_at-zero k),
  λ none. elim (cases_eq n 0) [
    | inl same ↦ ap (λ (m : ℕ). m == 0) same
    | inr some ↦
        let first = bit_at-trailing_zeros w64 n (omega arith) fits in
        let here : (bit_at n (trailing_zeros w64 n) == 1) ≡ true = ap (λ (x : ℕ). x == 1) first.1 in
        let not_here = none (trailing_zeros w64 n) in
        cc
  ],
)
