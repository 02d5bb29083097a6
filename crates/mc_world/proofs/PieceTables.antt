-- Tables that were filled by place, and looked over.
use Rattle.std.proofs.Common.{inl, inr, ◌≡◌, ◌<◌, ◌≤◌, true, false, Bool, ℕ, Option, Some, None, List, [], length, map, position, get_or, refl, ap, sym, ◌∙◌, subst, arith}
use Rattle.std.specs.List.{position_or_len, slice_get}
use Rattle.std.proofs.Math.ListN.{get_or-eq_default}
use Rattle.std.proofs.lemmas.Bool.{cases_lt}
use Rattle.std.proofs.lemmas.Grind.{common_steps}
use Rattle.std.proofs.lemmas.List.{length-map}
use Rattle.std.proofs.lemmas.List.Sums.{position_or_len_is}
use Rattle.std.proofs.lemmas.Option.{get_or_from_slice_get, slice_get_within}
use Rattle.mc_box.specs.declared.limit.TheConstants.{SLOT_LIMIT}
use Rattle.mc_laws.proofs.Numbers.{found_at, some_same}
use Rattle.mc_model.specs.Worlds.{is_place}
use Rattle.mc_world.specs.Pieces.{ArePlaced, EachFound, EachPlaced}
use Rattle.mc_world.specs.Lanes.{HasNumbers, numbers_of}
use Rattle.mc_world.specs.declared.topology.Topology.{Topology}
use Rattle.mc_world.proofs.SlotNumbers.{none_by}

-- ---- what is found at a place

abbrev place_at : (topology : Topology) → ℕ → ℕ × ℕ
place_at topology s = get_or topology.places.items s (0, 0)

tests : (a b : ℕ) (p : ℕ × ℕ) → (p.0 ≡ a) → (p.1 ≡ b) → is_place (a, b) p ≡ true
tests a b p one two = grind (arith, common_steps)

tested : (a b : ℕ) (p : ℕ × ℕ) → (is_place (a, b) p ≡ true → ⊥) → is_place (a, b) p ≡ false
tested a b p never = grind (arith, common_steps)

parts_of : (a b : ℕ) (p : ℕ × ℕ) → is_place (a, b) p ≡ true → (p.0 ≡ a) × (p.1 ≡ b)
parts_of a b p is = grind (arith, common_steps)

found_there : (test : ℕ × ℕ → Bool) (places : List (ℕ × ℕ)) (s : ℕ) → position_or_len test places ≡ s → s < length places → position test places ≡ Some s
found_there test places s is below = grind (arith, common_steps)

-- a slot with a place that is found by it is the only one there
by_place : (topology : Topology) (who local s : ℕ) → EachFound topology (length topology.places.items) → s < length topology.places.items → (place_at topology s).0 ≡ who → (place_at topology s).1 ≡ local
    → slice_get (numbers_of topology who) local ≡ Some s → position (is_place (who, local)) topology.places.items ≡ Some s
by_place topology who local s found below home at is =
    found_there (is_place (who, local)) topology.places.items s
    (position_or_len_is (is_place (who, local)) topology.places.items s (0, 0) (omega (arith, below))
    (λ k less. tested who local (place_at topology k) (λ yes.
    let parts = parts_of who local (place_at topology k) yes in
    let other : slice_get (numbers_of topology (place_at topology k).0) (place_at topology k).1 ≡ Some k = found k (omega (arith, less, below)) in
    let same : s ≡ k = some_same s k (sym is ∙ (ap (λ (n : ℕ). slice_get (numbers_of topology n) local) (sym parts.0) ∙ (ap (λ (n : ℕ). slice_get (numbers_of topology (place_at topology k).0) n) (sym parts.1) ∙ other))) in
    omega (arith, same, less)))
    (λ here. tests who local (place_at topology s) home at)) below

-- a home that isn't there has no numbers
pub none_past : (topology : Topology) (who : ℕ) → length topology.numbers.items ≤ who → numbers_of topology who ≡ []
none_past topology who past = get_or-eq_default (map (λ numbers. numbers.items) topology.numbers.items) [] (omega (arith, past, length-map topology.numbers.items (λ numbers. numbers.items)))

pub numbered : (topology : Topology) (who local s : ℕ) → slice_get (numbers_of topology who) local ≡ Some s → who < length topology.numbers.items
numbered topology who local s is = elim (cases_lt who (length topology.numbers.items)) [
  | inl below ↦ below
  | inr past ↦ let none : slice_get [] local ≡ Some s = subst (λ (l : List ℕ). slice_get l local ≡ Some s) (none_past topology who past) is in absurd (cc)
]

-- ---- numbers and places

by_number : (topology : Topology) (who local : ℕ) (o : Option ℕ) → ArePlaced topology → slice_get (numbers_of topology who) local ≡ o → o ≡ position (is_place (who, local)) topology.places.items
by_number topology who local None are is =
    sym (none_by (position (is_place (who, local)) topology.places.items) (λ s at.
    let there = found_at topology.places.items who local s at in
    let found : slice_get (numbers_of topology who) local ≡ Some s =
    ap (λ (n : ℕ). slice_get (numbers_of topology n) local) (sym there.1) ∙ (ap (λ (n : ℕ). slice_get (numbers_of topology (place_at topology s).0) n) (sym there.2) ∙ are.found s there.0) in
    cc))
by_number topology who local (Some s) are is =
    let placed : EachPlaced topology who = are.placed who (numbered topology who local s is) in
    let at : slice_get topology.places.items s ≡ Some (who, local) = placed.placed local s (slice_get_within (numbers_of topology who) local s is) is in
    let below : s < length topology.places.items = slice_get_within topology.places.items s (who, local) at in
    let place : place_at topology s ≡ (who, local) = get_or_from_slice_get topology.places.items s (who, local) (0, 0) at in
    sym (by_place topology who local s are.found below (ap (λ (p : ℕ × ℕ). p.0) place) (ap (λ (p : ℕ × ℕ). p.1) place) is)

few_there : (topology : Topology) (who : ℕ) → ArePlaced topology → length (numbers_of topology who) ≤ SLOT_LIMIT
few_there topology who are = elim (cases_lt who (length topology.numbers.items)) [
  | inl below ↦ (are.placed who below).few
  | inr past ↦ subst (λ (l : List ℕ). length l ≤ SLOT_LIMIT) (sym (none_past topology who past)) (omega arith)
]

pub placed_numbers : (topology : Topology) → ArePlaced topology → HasNumbers topology
placed_numbers topology are = record {
  found = λ who local. by_number topology who local (slice_get (numbers_of topology who) local) are refl;
  once = λ s below. sym (by_number topology (place_at topology s).0 (place_at topology s).1 (slice_get (numbers_of topology (place_at topology s).0) (place_at topology s).1) are refl) ∙ are.found s below;
  few = λ who. few_there topology who are;
}
