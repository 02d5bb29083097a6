-- Slots in order are found by their places, and each place of a box is one of a slot.
use Rattle.std.proofs.Common.{◌≡◌, ◌≢◌, ◌<◌, ◌==◌, ◌&&◌, ℕ, Bool, true, false, cond, Some, None, List, count_by, length, take, position, refl, ap, sym, ◌∙◌, subst, arith, nat_lt}
use Rattle.std.proofs.Math.ListN.{get_or}
use Rattle.std.proofs.Math.Seq.{take-length}
use Rattle.std.proofs.lemmas.Bool.{lt-ltb}
use Rattle.std.proofs.lemmas.Grind.{common_steps}
use Rattle.std.proofs.lemmas.List.Sums.{position_or_len_is}
use Rattle.std.specs.List.{position_or_len}
use Rattle.mc_model.specs.Worlds.{is_place}
use Rattle.mc_plan.specs.LaidOut.{AreInOrder, place_at}
use Rattle.mc_plan.specs.Plans.{is_of}
use Rattle.mc_plan.proofs.Counts.{Reached, earlier_less, reached}

-- the first that passes
position_is : {X : Type 0} (p : X → Bool) (xs : List X) (s : ℕ) (d : X) → s < length xs → ((k : ℕ) → k < s → p (get_or xs k d) ≡ false) → p (get_or xs s d) ≡ true → position p xs ≡ Some s
position_is p xs s d inside before here =
    let first : position_or_len p xs ≡ s = position_or_len_is p xs s d (omega arith) before (λ below. here) in
    ap (λ (n : ℕ). cond (nat_lt n (length xs)) (Some n) None) first ∙ ap (λ (b : Bool). cond b (Some s) None) (lt-ltb s (length xs) inside)

-- what can't be true
not_true : (b : Bool) → (b ≡ true → ⊥) → b ≡ false
not_true true never = absurd (never refl)
not_true false never = refl

-- a place is itself
both_same : (a b : ℕ) → (a == a && b == b) ≡ true
both_same a b = grind (arith, common_steps)

-- places are one by their parts
both_parts : (a b c d : ℕ) → (a == b && c == d) ≡ true → (b ≡ a) × (d ≡ c)
both_parts a b c d is = grind (arith, common_steps)

-- a box is itself
pub same_box : (a : ℕ) → (a == a) ≡ true
same_box a = grind (arith, common_steps)

-- boxes of one number
of_box : (a b : ℕ) → (a == b) ≡ true → a ≡ b
of_box a b is = grind (arith, common_steps)

-- a slot has a place of its own: no earlier one has the same
apart : (places : List (ℕ × ℕ)) (k s : ℕ) → AreInOrder places → k < s → s < length places → (place_at places k).0 ≡ (place_at places s).0 → (place_at places k).1 ≢ (place_at places s).1
apart places k s ordered before inside box local =
    let who : ℕ = (place_at places s).0 in
    let less : count_by (is_of (place_at places s).0) (take k places) < count_by (is_of (place_at places s).0) (take s places) =
    earlier_less (is_of who) places k s (0, 0) before (omega arith) (subst (λ (n : ℕ). (n == who) ≡ true) (sym box) (same_box who)) in
    let one : (place_at places k).1 ≡ count_by (is_of (place_at places s).0) (take k places) =
    ordered k (omega arith) ∙ ap (λ (n : ℕ). count_by (is_of n) (take k places)) box in
    omega (arith, less, one, ordered s inside, local)

-- so it is found there
pub found_once : (places : List (ℕ × ℕ)) (s : ℕ) → AreInOrder places → s < length places → position (is_place ((place_at places s).0, (place_at places s).1)) places ≡ Some s
found_once places s ordered inside =
    let who : ℕ = (place_at places s).0 in
    let local : ℕ = (place_at places s).1 in
    position_is (is_place (who, local)) places s (0, 0) inside
    (λ k before. not_true (is_place (who, local) (place_at places k)) (λ same.
    let parts : ((place_at places k).0 ≡ who) × ((place_at places k).1 ≡ local) = both_parts who (place_at places k).0 local (place_at places k).1 same in
    apart places k s ordered before inside parts.0 parts.1))
    (both_same who local)

-- its local number is one of its box
pub local_inside : (places : List (ℕ × ℕ)) (s : ℕ) → AreInOrder places → s < length places → (place_at places s).1 < count_by (is_of (place_at places s).0) places
local_inside places s ordered inside =
    let who : ℕ = (place_at places s).0 in
    let less : count_by (is_of (place_at places s).0) (take s places) < count_by (is_of (place_at places s).0) (take (length places) places) =
    earlier_less (is_of who) places s (length places) (0, 0) inside (omega arith) (same_box who) in
    let whole : count_by (is_of (place_at places s).0) (take (length places) places) ≡ count_by (is_of (place_at places s).0) places = ap (count_by (is_of who)) (take-length places) in
    omega (arith, less, whole, ordered s inside)

-- a place by its parts
pair_is : (place : ℕ × ℕ) (who local : ℕ) → place.0 ≡ who → place.1 ≡ local → place ≡ (who, local)
pair_is place who local one two = ap (λ (n : ℕ). (n, place.1)) one ∙ ap (λ (n : ℕ). (who, n)) two

-- and each local number of a box is one of a slot
pub each_found : (places : List (ℕ × ℕ)) (who local : ℕ) → AreInOrder places → local < count_by (is_of who) places → (s : ℕ) × (s < length places) × (place_at places s ≡ (who, local))
each_found places who local ordered below =
    let found : Reached (ℕ × ℕ) (is_of who) places local (0, 0) = reached (is_of who) places local (0, 0) below in
    let box : (place_at places found.at).0 ≡ who = of_box (place_at places found.at).0 who found.passes in
    let number : (place_at places found.at).1 ≡ local =
    ordered found.at found.inside ∙ (ap (λ (n : ℕ). count_by (is_of n) (take found.at places)) box ∙ found.count) in
    (found.at, found.inside, pair_is (place_at places found.at) who local box number)
