-- Each slot of a sound world stands on exactly one path, or on a ring: a path goes over a slot where the walk from that slot comes to one of the path's ends.
use Rattle.std.proofs.Common.{◌≡◌, ◌<◌, ◌+◌, ◌==◌, ◌||◌, ◌⊎◌, ◌++◌, inl, inr, cond, if◌then◌else◌, ℕ, zero, suc, Bool, true, false, Option, Some, None, List, [], ◌∷◌, length, count_by, reverse, refl, ap, sym, ◌∙◌, subst, arith}
use Rattle.std.specs.List.{cons_option, list_any}
use Rattle.std.specs.Option.{is_none}
use Rattle.std.proofs.lemmas.Bool.{cases_eq}
use Rattle.std.proofs.lemmas.Grind.{common_steps}
use Rattle.std.proofs.lemmas.List.Folds.{list_any-append}
use Rattle.std.proofs.lemmas.List.Sums.{sum_by-cons}
use Rattle.std.proofs.lemmas.List.Sorted.{IsPermutation-reverse, list_any-IsPermutation}
use Rattle.mc_model.specs.Paths.{PathEnds, both_sides, end_after, next_slot, other_end, partner_of, path_from, paths, walk, whole_walk}
use Rattle.mc_model.specs.Sound.{IsSound}
use Rattle.mc_model.specs.Worlds.{WorldState, far, all_tunnels, places, slot_count}
use Rattle.mc_model.specs.Rings.{IsOnRing}
use Rattle.mc_laws.proofs.Partners.{next_is}
use Rattle.mc_laws.proofs.RingWalks.{rings_meet_no_end}
use Rattle.mc_laws.proofs.Walks.{end_alone, end_parts, walk_stays}
use Rattle.mc_path_laws.specs.PathLaws.{EachEndOnce, EachSlotOnce, is_end_of, is_on}
use Rattle.mc_path_laws.proofs.Ends.{each_end_once, count_none, high_ends, listed, low_ends, parts_of}
use Rattle.mc_path_laws.proofs.Returns.{Returns, back_on, back_once, comes_back, slots_back, slots_beyond, walk_back}
use Rattle.mc_laws.proofs.Numbers.{some_same}

-- ---- slots of a list

-- whether a slot is one of these
abbrev is_among : ℕ → List ℕ → Bool
is_among n slots = list_any (λ k. k == n) slots

has_first : (n : ℕ) (slots : List ℕ) → is_among n (n ∷ slots) ≡ true
has_first n slots = grind (arith, common_steps)

has_reverse : (n : ℕ) (slots : List ℕ) → is_among n (reverse slots) ≡ is_among n slots
has_reverse n slots = sym (list_any-IsPermutation (λ (k : ℕ). k == n) slots (reverse slots) (IsPermutation-reverse slots))

true_or : (a b : Bool) → a ≡ true → (a || b) ≡ true
true_or a b is = rw (is) refl

has_before : (n : ℕ) (slots beyond : List ℕ) → is_among n slots ≡ true → is_among n (slots ++ beyond) ≡ true
has_before n slots beyond is = list_any-append (λ (k : ℕ). k == n) slots beyond ∙ true_or (is_among n slots) (is_among n beyond) is

-- it is the first, or one of the others
or_else : (a n : ℕ) (rest : Bool) → (a == n || rest) ≡ true → (a ≡ n) ⊎ (rest ≡ true)
or_else a n rest is = elim (cases_eq a n) [
  | inl same ↦ inl same
  | inr apart ↦ inr (grind (arith, common_steps))
]

same_bool : (a b : Bool) → (a ≡ true → b ≡ true) → (b ≡ true → a ≡ true) → a ≡ b
same_bool true b forth back = sym (forth refl)
same_bool false true forth back = back refl
same_bool false false forth back = refl

never_true : (a : Bool) → (a ≡ true → ⊥) → a ≡ false
never_true true none = absurd (none refl)
never_true false none = refl

-- ---- a walk from a slot that another walk goes over

-- the walk from t goes on to the end u of the other one, or back to where that began
abbrev Either : WorldState → ℕ → ℕ → ℕ → ℕ → Type 0
Either world most s t u = (end_after world (walk world (Some t) most) ≡ Some u) ⊎ Returns world most s t

-- to what a walk comes within so many tunnels, it comes within more
further : (most : ℕ) (world : WorldState) (s u : ℕ) → end_after world (walk world (Some s) most) ≡ Some u → end_after world (walk world (Some s) (suc most)) ≡ Some u
further most world s u comes = ap (end_after world) (walk_stays most world s u comes) ∙ comes

-- from whichever slot that it goes over
on_walk : (most : ℕ) (world : WorldState) (s t u : ℕ) → IsSound world → s < slot_count world → end_after world (walk world (Some s) most) ≡ Some u → is_among t (both_sides (walk world (Some s) most)) ≡ true
    → Either world most s t u
on_walk zero world s t u sound inside comes is = absurd (cc)
on_walk (suc most) world s t u sound inside comes is =
    let beyond : Bool = is_among t (both_sides (walk world (next_slot world s) most)) in
    elim (or_else s t (far s == t || beyond) is) [
      | inl same ↦ inl (subst (λ (n : ℕ). end_after world (walk world (Some n) (suc most)) ≡ Some u) same comes)
      | inr others ↦ elim (or_else (far s) t beyond others) [
        | inl same ↦ inr (subst (λ (n : ℕ). Returns world (suc most) s n) same (back_once world most s))
        | inr more ↦ elim (end_parts world most (far s) u comes) [
          | inl here ↦
              let never : false ≡ true = sym (ap (λ (o : Option ℕ). is_among t (both_sides (walk world o most))) (end_alone world (far s) here.0)) ∙ more in
              absurd (cc)
          | inr on ↦
              let next = next_is world s on.0 sound inside on.1 in
              let there : is_among t (both_sides (walk world (Some on.0) most)) ≡ true = sym (ap (λ (o : Option ℕ). is_among t (both_sides (walk world o most))) on.1) ∙ more in
              elim (on_walk most world on.0 t u sound next.inside on.2 there) [
                | inl goes ↦ inl (further most world t u goes)
                | inr returns ↦ inr (back_on world most s on.0 t next.back returns)
              ]
        ]
      ]
    ]

-- ---- the slots of a path

-- from a slot that a path goes over a walk comes to one of its ends
on_path : (world : WorldState) (i s : ℕ) (path : PathEnds) → IsSound world → i < slot_count world → path_from world i ≡ Some path → is_on world s path ≡ true
    → (other_end world s ≡ Some path.high) ⊎ (other_end world s ≡ Some path.low)
on_path world i s path sound inside is on =
    let parts = parts_of world i path is in
    let here : is_among s (both_sides (whole_walk world i)) ≡ true = subst (λ (n : ℕ). is_among s (both_sides (whole_walk world n)) ≡ true) parts.low_is on in
    elim (on_walk (length (all_tunnels world)) world i s path.high sound inside parts.leads here) [
      | inl goes ↦ inl goes
      | inr returns ↦ inr (comes_back world i s parts.aims returns ∙ ap (λ (n : ℕ). Some n) (sym parts.low_is))
    ]

-- a walk goes over the slot that it begins from
over_own : (most : ℕ) (world : WorldState) (s u : ℕ) → end_after world (walk world (Some s) most) ≡ Some u → is_among s (both_sides (walk world (Some s) most)) ≡ true
over_own zero world s u comes = absurd (cc)
over_own (suc most) world s u comes = has_first s (far s ∷ both_sides (walk world (next_slot world s) most))

-- and so does the walk back from its end
end_over : (world : WorldState) (s u : ℕ) → IsSound world → s < slot_count world → other_end world s ≡ Some u → is_among s (both_sides (whole_walk world u)) ≡ true
end_over world s u sound inside comes =
    let back = slots_beyond world s u sound inside comes in
    ap (is_among s) back.1
    ∙ has_before s (reverse (both_sides (whole_walk world s))) (both_sides (walk world (partner_of world s) back.0))
    (has_reverse s (both_sides (whole_walk world s)) ∙ over_own (length (all_tunnels world)) world s u comes)

-- an end of a path is its lower or its higher end
which_end : (a b t : ℕ) → (a == t || b == t) ≡ true → (a ≡ t) ⊎ (b ≡ t)
which_end a b t is = elim (or_else a t (b == t) is) [
  | inl low ↦ inl low
  | inr rest ↦ inr (grind (arith, common_steps))
]

-- a path goes over each slot from which the walk comes to one of its ends
over_slot : (world : WorldState) (i s t : ℕ) (path : PathEnds) → IsSound world → i < slot_count world → s < slot_count world → path_from world i ≡ Some path → other_end world s ≡ Some t
    → is_end_of t path ≡ true → is_on world s path ≡ true
over_slot world i s t path sound inside within is walk ends =
    let parts = parts_of world i path is in
    let here : is_among s (both_sides (whole_walk world t)) ≡ true = end_over world s t sound within walk in
    elim (which_end path.low path.high t ends) [
      | inl low ↦ subst (λ (n : ℕ). is_among s (both_sides (whole_walk world n)) ≡ true) (sym low) here
      | inr high ↦
          let back : both_sides (whole_walk world path.high) ≡ reverse (both_sides (whole_walk world i)) = slots_back world i path.high sound inside parts.aims parts.leads in
          let there : is_among s (both_sides (whole_walk world path.high)) ≡ true = subst (λ (n : ℕ). is_among s (both_sides (whole_walk world n)) ≡ true) (sym high) here in
          let first : is_among s (both_sides (whole_walk world i)) ≡ true = sym (has_reverse s (both_sides (whole_walk world i))) ∙ (sym (ap (is_among s) back) ∙ there) in
          subst (λ (n : ℕ). is_among s (both_sides (whole_walk world n)) ≡ true) (sym parts.low_is) first
    ]

-- so a path goes over a slot where it has the slot's end
on_is : (world : WorldState) (i s t : ℕ) (path : PathEnds) → IsSound world → i < slot_count world → s < slot_count world → path_from world i ≡ Some path → other_end world s ≡ Some t
    → is_on world s path ≡ is_end_of t path
on_is world i s t path sound inside within is walk =
    same_bool (is_on world s path) (is_end_of t path)
    (λ on. elim (on_path world i s path sound inside is on) [
      | inl high ↦ high_ends path.low path.high t (some_same path.high t (sym high ∙ walk))
      | inr low ↦ low_ends path.low path.high t (some_same path.low t (sym low ∙ walk))
    ])
    (λ ends. over_slot world i s t path sound inside within is walk ends)

-- and over none where the slot has no end
on_none : (world : WorldState) (i s : ℕ) (path : PathEnds) → IsSound world → i < slot_count world → path_from world i ≡ Some path → other_end world s ≡ None → is_on world s path ≡ false
on_none world i s path sound inside is none =
    never_true (is_on world s path) (λ on. elim (on_path world i s path sound inside is on) [
      | inl high ↦ let never : None ≡ Some path.high = sym none ∙ high in cc
      | inr low ↦ let never : None ≡ Some path.low = sym none ∙ low in cc
    ])

-- ---- counting

-- one more, of which two tests say the same
count_more : (p q : PathEnds → Bool) (path : PathEnds) (rest : List PathEnds) → p path ≡ q path → count_by p rest ≡ count_by q rest → count_by p (path ∷ rest) ≡ count_by q (path ∷ rest)
count_more p q path rest same more =
    sum_by-cons (λ (x : PathEnds). cond (p x) 1 0) path rest
    ∙ (ap (λ (b : Bool). cond b 1 0 + count_by p rest) same
    ∙ (ap (λ (n : ℕ). cond (q path) 1 0 + n) more ∙ sym (sum_by-cons (λ (x : PathEnds). cond (q x) 1 0) path rest)))

-- or none
count_both : (p q : PathEnds → Bool) (found : Option PathEnds) (rest : List PathEnds) → ((path : PathEnds) → found ≡ Some path → p path ≡ q path) → count_by p rest ≡ count_by q rest
    → count_by p (cons_option found rest) ≡ count_by q (cons_option found rest)
count_both p q None rest here more = more
count_both p q (Some path) rest here more = count_more p q path rest (here path refl) more

-- tests that say the same count the same
count_same : (p q : PathEnds → Bool) (f : ℕ → Option PathEnds) (slots : List (ℕ × ℕ)) (first count : ℕ) → first + length slots ≡ count
    → ((i : ℕ) → i < count → (path : PathEnds) → f i ≡ Some path → p path ≡ q path) → count_by p (listed f first slots) ≡ count_by q (listed f first slots)
count_same p q f [] first count whole each = refl
count_same p q f (slot ∷ slots) first count whole each =
    count_both p q (f first) (listed f (first + 1) slots) (each first (omega arith)) (count_same p q f slots (first + 1) count (omega arith) each)

-- ---- all slots

-- by the end that the walk from a slot comes to
slot_by : EachEndOnce → (found : Option ℕ) (world : WorldState) (s : ℕ) → IsSound world → s < slot_count world → other_end world s ≡ found
    → count_by (is_on world s) (paths world) ≡ (if is_none found then 0 else 1)
slot_by once None world s sound inside walk =
    count_none (is_on world s) (path_from world) (places world) 0 (slot_count world) (omega arith)
    (λ i after within path is. on_none world i s path sound within is walk)
slot_by once (Some t) world s sound inside walk =
    let more = walk_back (length (all_tunnels world)) world s t sound inside walk in
    count_same (is_on world s) (is_end_of t) (path_from world) (places world) 0 (slot_count world) (omega arith)
    (λ i within path is. on_is world i s t path sound within inside is walk)
    ∙ once world t sound more.inside more.aims

-- whether or not a walk comes to an end
slots_by : (o : Option ℕ) (world : WorldState) (s : ℕ) → IsSound world → s < slot_count world → other_end world s ≡ o → count_by (is_on world s) (paths world) ≡ (if is_none o then 0 else 1)
    → (IsOnRing world s → count_by (is_on world s) (paths world) ≡ 0) × ((IsOnRing world s → ⊥) → count_by (is_on world s) (paths world) ≡ 1)
slots_by None world s sound inside walk count = (λ ring. count, λ off. absurd (off ((rings_meet_no_end world s sound inside).0 walk)))
slots_by (Some t) world s sound inside walk count = (λ ring. absurd (let clash : Some t ≡ None = sym walk ∙ (rings_meet_no_end world s sound inside).1 ring in cc), λ off. count)

pub each_slot_once : EachSlotOnce
each_slot_once world s sound inside = slots_by (other_end world s) world s sound inside refl (slot_by each_end_once (other_end world s) world s sound inside refl)
