-- Slots whose local numbers are in order, and stay so where others come last.
use Rattle.std.proofs.Common.{◌≡◌, ◌≢◌, ◌+◌, ◌-◌, ◌<◌, ◌≤◌, ◌==◌, inl, inr, ℕ, zero, suc, cond, List, [], ◌∷◌, ◌++◌, count_by, length, length-append, take, refl, sym, ◌∙◌, subst, arith, flat_map}
use Rattle.std.proofs.Math.Seq.{take-append-add}
use Rattle.std.proofs.lemmas.Bool.{cases_lt}
use Rattle.std.proofs.lemmas.Grind.{common_steps}
use Rattle.std.proofs.lemmas.List.{get_or_append_left, get_or-append-add, take-append-le}
use Rattle.mc_signal.specs.declared.Medium.{Medium}
use Rattle.mc_model.specs.Worlds.{ChannelState, places_of}
use Rattle.mc_plan.specs.LaidOut.{AreInOrder, AreThere, place_at}
use Rattle.mc_plan.specs.Plans.{is_of, tunnels_between}
use Rattle.mc_plan.proofs.Counts.{count_append, count_cons}

-- in order, where each box has so many slots already
abbrev pub AreFrom : (ℕ → ℕ) → List (ℕ × ℕ) → Type 0
AreFrom start places = (s : ℕ) → s < length places → (place_at places s).1 ≡ start (place_at places s).0 + count_by (is_of (place_at places s).0) (take s places)

-- how far a number is from an earlier one
record Behind (n s : ℕ) : Type 0 where
  more : ℕ
  is : n + more ≡ s

-- where it is no less
behind : (n s : ℕ) → n ≤ s → Behind n s
behind n s above = record { more = s - n; is = omega arith }

-- a slot that comes later has its order by those before the list and in it
ordered_behind : (xs ys : List (ℕ × ℕ)) (s : ℕ) → AreFrom (λ who. count_by (is_of who) xs) ys → s < length ys
    → (place_at (xs ++ ys) (length xs + s)).1 ≡ count_by (is_of (place_at (xs ++ ys) (length xs + s)).0) (take (length xs + s) (xs ++ ys))
ordered_behind xs ys s later inside =
    subst (λ (place : ℕ × ℕ). place.1 ≡ count_by (is_of place.0) (take (length xs + s) (xs ++ ys))) (sym (get_or-append-add xs ys s (0, 0)))
    (subst (λ (l : List (ℕ × ℕ)). (place_at ys s).1 ≡ count_by (is_of (place_at ys s).0) l) (sym (take-append-add xs ys s))
    (later s inside ∙ sym (count_append (is_of (place_at ys s).0) xs (take s ys))))

-- a slot that was there keeps its order
ordered_before : (xs ys : List (ℕ × ℕ)) (s : ℕ) → AreInOrder xs → s < length xs
    → (place_at (xs ++ ys) s).1 ≡ count_by (is_of (place_at (xs ++ ys) s).0) (take s (xs ++ ys))
ordered_before xs ys s first inside =
    subst (λ (place : ℕ × ℕ). place.1 ≡ count_by (is_of place.0) (take s (xs ++ ys))) (sym (get_or_append_left xs ys (0, 0) s inside))
    (subst (λ (l : List (ℕ × ℕ)). (place_at xs s).1 ≡ count_by (is_of (place_at xs s).0) l) (sym (take-append-le s xs ys (omega arith))) (first s inside))

-- slots in order, and then others from there on
pub ordered_append : (xs ys : List (ℕ × ℕ)) → AreInOrder xs → AreFrom (λ who. count_by (is_of who) xs) ys → AreInOrder (xs ++ ys)
ordered_append xs ys first later s inside = elim (cases_lt s (length xs)) [
  | inl below ↦ ordered_before xs ys s first below
  | inr above ↦
      let rest : Behind (length xs) s = behind (length xs) s above in
      subst (λ (k : ℕ). (place_at (xs ++ ys) k).1 ≡ count_by (is_of (place_at (xs ++ ys) k).0) (take k (xs ++ ys))) rest.is
      (ordered_behind xs ys rest.more later (omega (arith, rest.is, length-append xs ys)))
]

-- boxes that are there, and others
pub there_append : (boxes : ℕ) (xs ys : List (ℕ × ℕ)) → AreThere boxes xs → AreThere boxes ys → AreThere boxes (xs ++ ys)
there_append boxes xs ys first later s inside = elim (cases_lt s (length xs)) [
  | inl below ↦ subst (λ (place : ℕ × ℕ). place.0 < boxes) (sym (get_or_append_left xs ys (0, 0) s below)) (first s below)
  | inr above ↦
      let rest : Behind (length xs) s = behind (length xs) s above in
      subst (λ (k : ℕ). (place_at (xs ++ ys) k).0 < boxes) rest.is
      (subst (λ (place : ℕ × ℕ). place.0 < boxes) (sym (get_or-append-add xs ys rest.more (0, 0))) (later rest.more (omega (arith, rest.is, length-append xs ys))))
]

-- ---- the slots of a new channel

-- nothing
from_none : (start : ℕ → ℕ) → AreFrom start []
from_none start s inside = absurd (omega arith)

-- a place, and then others from there on
from_cons : (start next : ℕ → ℕ) (place : ℕ × ℕ) (places : List (ℕ × ℕ)) → place.1 ≡ start place.0 → ((who : ℕ) → next who ≡ start who + cond (place.0 == who) 1 0) → AreFrom next places → AreFrom start (place ∷ places)
from_cons start next place places here steps later zero inside = omega (arith, here)
from_cons start next place places here steps later (suc s) inside =
    omega (arith, later s (omega arith), steps (place_at places s).0, count_cons (is_of (place_at places s).0) place (take s places))

-- a box that is there, and others
there_cons : (boxes : ℕ) (place : ℕ × ℕ) (places : List (ℕ × ℕ)) → place.0 < boxes → AreThere boxes places → AreThere boxes (place ∷ places)
there_cons boxes place places here later zero inside = here
there_cons boxes place places here later (suc s) inside = later s (omega arith)

-- a slot of the box
one_here : (a : ℕ) → ◌≡◌ {A = ℕ} (cond (a == a) 1 0) 1
one_here a = grind (arith, common_steps)

-- a slot of another box
none_there : (a b : ℕ) → a ≢ b → ◌≡◌ {A = ℕ} (cond (a == b) 1 0) 0
none_there a b apart = grind (arith, common_steps)

-- the slots of each box after those of one more tunnel
abbrev after_one : ChannelState → (ℕ → ℕ) → ℕ → ℕ
after_one ends start who = start who + cond (ends.from == who) 1 0

abbrev after_both : ChannelState → (ℕ → ℕ) → ℕ → ℕ
after_both ends start who = after_one ends start who + cond (ends.to == who) 1 0

-- each tunnel takes the next slot of both boxes
pub channel_ordered : (ends : ChannelState) (media : List Medium) (near far : ℕ) (start : ℕ → ℕ) → ends.from ≢ ends.to → near ≡ start ends.from → far ≡ start ends.to
    → AreFrom start (flat_map (places_of ends) (tunnels_between near far media))
channel_ordered ends [] near far start apart one two = from_none start
channel_ordered ends (medium ∷ media) near far start apart one two =
    let back : ends.to ≢ ends.from = λ same. apart (sym same) in
    let near_next : near + 1 ≡ after_both ends start ends.from = omega (arith, one, one_here ends.from, none_there ends.to ends.from back) in
    let far_now : far ≡ after_one ends start ends.to = omega (arith, two, none_there ends.from ends.to apart) in
    let far_next : far + 1 ≡ after_both ends start ends.to = omega (arith, far_now, one_here ends.to) in
    let rest : AreFrom (after_both ends start) (flat_map (places_of ends) (tunnels_between (near + 1) (far + 1) media)) = channel_ordered ends media (near + 1) (far + 1) (after_both ends start) apart near_next far_next in
    from_cons start (after_one ends start) (ends.from, near) ((ends.to, far) ∷ flat_map (places_of ends) (tunnels_between (near + 1) (far + 1) media)) one (λ who. refl)
    (from_cons (after_one ends start) (after_both ends start) (ends.to, far) (flat_map (places_of ends) (tunnels_between (near + 1) (far + 1) media)) far_now (λ who. refl) rest)

-- both boxes are there
pub channel_there : (ends : ChannelState) (media : List Medium) (near far boxes : ℕ) → ends.from < boxes → ends.to < boxes → AreThere boxes (flat_map (places_of ends) (tunnels_between near far media))
channel_there ends [] near far boxes one two = λ s inside. absurd (omega arith)
channel_there ends (medium ∷ media) near far boxes one two =
    let rest : List (ℕ × ℕ) = flat_map (places_of ends) (tunnels_between (near + 1) (far + 1) media) in
    there_cons boxes (ends.from, near) ((ends.to, far) ∷ rest) one (there_cons boxes (ends.to, far) rest two (channel_there ends media (near + 1) (far + 1) boxes one two))
