-- The legs of a box as a relation and as values, and in their order.
use Rattle.std.proofs.Common.{◌≡◌, ◌≢◌, ◌<◌, ◌≤◌, ◌==◌, ◌↔◌, inl, inr, ℕ, Bool, true, false, nat_le, if◌then◌else◌, List, [], ◌∷◌, Some, None, refl, ap, ap₂, sym, ◌∙◌, arith, subst}
use Rattle.std.specs.List.{AllByRecursion}
use Rattle.std.specs.Option.{option_and_then}
use Rattle.std.proofs.lemmas.Grind.{common_steps}
use Rattle.mc_view.specs.declared.PathView.{PathView}
use Rattle.mc_conf.specs.Legs.{IsLeg, far_end, in_order, inserted, leg_of, leg_to, legs_in}
use Rattle.mc_conf.specs.Pairs.{HasLeg, PartiesDiffer}
use Rattle.mc_conf.specs.declared.party.Leg.{Leg}
use Rattle.mc_conf.proofs.Members.{IsIn, contained, given, gives, is_in}
use Rattle.mc_conf.proofs.Sorting.{Ranked, all_in_order, all_inserted, order_ranked}

-- ---- tests

pub eq_test : (a b : ℕ) → (a == b) ≡ true → a ≡ b
eq_test a b is = grind (arith, common_steps)

pub test_eq : (a b : ℕ) → a ≡ b → (a == b) ≡ true
test_eq a b is = grind (arith, common_steps)

pub apart_test : (a b : ℕ) → (a == b) ≡ false → a ≢ b
apart_test a b is same = let both : (a == b) ≡ true = test_eq a b same in cc

pub test_apart : (a b : ℕ) → a ≢ b → (a == b) ≡ false
test_apart a b apart = grind (arith, common_steps)

-- ---- one leg

made_is : (who : ℕ) (view : PathView) (leg made : Leg) (device : Bool) → (device ≡ true → IsLeg who view made) → (if device then Some made else None) ≡ Some leg → IsLeg who view leg
made_is who view leg made true so is = let same : made ≡ leg = cc in subst (IsLeg who view) same (so refl)
made_is who view leg made false so is = absurd (cc)

by_tests : (who : ℕ) (view : PathView) (leg : Leg) (flowing low high : Bool) → view.flowing ≡ flowing → (view.low.who == who) ≡ low → (view.high.who == who) ≡ high
    → (if flowing then option_and_then (leg_to view.medium) (far_end low high view) else None) ≡ Some leg → IsLeg who view leg
by_tests who view leg true true false flows low high is =
    made_is who view leg (record { party = view.high; medium = view.medium }) view.high.device (λ device. record {
      near = view.low;
      ends = inl (refl, refl);
      flows = flows;
      here = eq_test view.low.who who low;
      away = apart_test view.high.who who high;
      device = device;
      medium = refl;
    }) is
by_tests who view leg true false true flows low high is =
    made_is who view leg (record { party = view.low; medium = view.medium }) view.low.device (λ device. record {
      near = view.high;
      ends = inr (refl, refl);
      flows = flows;
      here = eq_test view.high.who who high;
      away = apart_test view.low.who who low;
      device = device;
      medium = refl;
    }) is
by_tests who view leg true true true flows low high is = absurd (cc)
by_tests who view leg true false false flows low high is = absurd (cc)
by_tests who view leg false low high flows one two is = absurd (cc)

pub leg_is : (who : ℕ) (view : PathView) (leg : Leg) → leg_of who view ≡ Some leg → IsLeg who view leg
leg_is who view leg is = by_tests who view leg view.flowing (view.low.who == who) (view.high.who == who) refl refl refl is

high_made : (who : ℕ) (view : PathView) → view.flowing ≡ true → (view.low.who == who) ≡ true → (view.high.who == who) ≡ false → view.high.device ≡ true → leg_of who view ≡ Some (record { party = view.high; medium = view.medium })
high_made who view flows low high device = rw (flows, low, high, device) refl

low_made : (who : ℕ) (view : PathView) → view.flowing ≡ true → (view.low.who == who) ≡ false → (view.high.who == who) ≡ true → view.low.device ≡ true → leg_of who view ≡ Some (record { party = view.low; medium = view.medium })
low_made who view flows low high device = rw (flows, low, high, device) refl

pub is_leg : (who : ℕ) (view : PathView) (leg : Leg) → IsLeg who view leg → leg_of who view ≡ Some leg
is_leg who view leg it = elim it.ends [
  | inl ends ↦
      high_made who view it.flows (test_eq view.low.who who (ap (λ end. end.who) (sym ends.0) ∙ it.here)) (test_apart view.high.who who (λ same. it.away (ap (λ end. end.who) ends.1 ∙ same)))
      (ap (λ end. end.device) (sym ends.1) ∙ it.device)
      ∙ ap₂ (λ party medium. Some (record { party = party; medium = medium })) (sym ends.1) (sym it.medium)
  | inr ends ↦
      low_made who view it.flows (test_apart view.low.who who (λ same. it.away (ap (λ end. end.who) ends.1 ∙ same))) (test_eq view.high.who who (ap (λ end. end.who) (sym ends.0) ∙ it.here))
      (ap (λ end. end.device) (sym ends.1) ∙ it.device)
      ∙ ap₂ (λ party medium. Some (record { party = party; medium = medium })) (sym ends.1) (sym it.medium)
]

-- ---- all legs

pub has_leg : (views : List PathView) (who : ℕ) (leg : Leg) → IsIn leg (legs_in views who) → HasLeg views who leg
has_leg views who leg in_it =
    let from = given (leg_of who) views leg in_it in
    (from.0, contained from.0 views from.1, leg_is who from.0 leg from.2)

pub leg_in : (views : List PathView) (who : ℕ) (leg : Leg) → HasLeg views who leg → IsIn leg (legs_in views who)
leg_in views who leg (view, there, it) = gives (leg_of who) views view leg (is_in view views there) (is_leg who view leg it)

-- ---- in their order

in_by : (x leg first : Leg) (rest : List Leg) (low : Bool) → (IsIn x (inserted leg rest) ↔ IsIn x (leg ∷ rest)) → IsIn x (if low then leg ∷ first ∷ rest else first ∷ inserted leg rest) ↔ IsIn x (leg ∷ first ∷ rest)
in_by x leg first rest true both = ((λ in_it. in_it), (λ in_it. in_it))
in_by x leg first rest false both = (moved, back) where
  moved : IsIn x (first ∷ inserted leg rest) → IsIn x (leg ∷ first ∷ rest)
  moved (inl is) = inr (inl is)
  moved (inr later) = elim (both.0 later) [ inl is ↦ inl is | inr more ↦ inr (inr more) ]

  back : IsIn x (leg ∷ first ∷ rest) → IsIn x (first ∷ inserted leg rest)
  back (inl is) = inr (both.1 (inl is))
  back (inr (inl is)) = inl is
  back (inr (inr more)) = inr (both.1 (inr more))

in_inserted : (x leg : Leg) (legs : List Leg) → IsIn x (inserted leg legs) ↔ IsIn x (leg ∷ legs)
in_inserted x leg [] = ((λ in_it. in_it), (λ in_it. in_it))
in_inserted x leg (first ∷ rest) = in_by x leg first rest (nat_le leg.party.slot first.party.slot) (in_inserted x leg rest)

pub ordered_in : (x : Leg) (legs : List Leg) → IsIn x (in_order legs) → IsIn x legs
ordered_in x [] in_it = in_it
ordered_in x (leg ∷ legs) in_it = elim ((in_inserted x leg (in_order legs)).0 in_it) [ inl is ↦ inl is | inr later ↦ inr (ordered_in x legs later) ]

pub in_ordered : (x : Leg) (legs : List Leg) → IsIn x legs → IsIn x (in_order legs)
in_ordered x [] in_it = in_it
in_ordered x (leg ∷ legs) (inl is) = (in_inserted x leg (in_order legs)).1 (inl is)
in_ordered x (leg ∷ legs) (inr later) = (in_inserted x leg (in_order legs)).1 (inr (in_ordered x legs later))

-- ---- each slot once

-- each slot is above all before it
abbrev pub AreRising : List Leg → Type 0
AreRising [] = Unit {0}
AreRising (leg ∷ legs) = AllByRecursion (λ (later : Leg). leg.party.slot < later.party.slot) legs × AreRising legs

differ_by : (leg first : Leg) (rest : List Leg) (low : Bool) → PartiesDiffer (leg ∷ first ∷ rest) → PartiesDiffer (inserted leg rest) → PartiesDiffer (if low then leg ∷ first ∷ rest else first ∷ inserted leg rest)
differ_by leg first rest true all later = all
differ_by leg first rest false all later = (all_inserted (λ (other : Leg). first.party.slot ≢ other.party.slot) leg rest (λ same. all.0.0 (sym same)) all.1.0, later)

differ_inserted : (leg : Leg) (legs : List Leg) → PartiesDiffer (leg ∷ legs) → PartiesDiffer (inserted leg legs)
differ_inserted leg [] all = all
differ_inserted leg (first ∷ rest) all = differ_by leg first rest (nat_le leg.party.slot first.party.slot) all (differ_inserted leg rest (all.0.1, all.1.1))

differ_ordered : (legs : List Leg) → PartiesDiffer legs → PartiesDiffer (in_order legs)
differ_ordered [] all = tt
differ_ordered (leg ∷ legs) all = differ_inserted leg (in_order legs) (all_in_order (λ (other : Leg). leg.party.slot ≢ other.party.slot) legs all.0, differ_ordered legs all.1)

above : (n : ℕ) (legs : List Leg) → AllByRecursion (λ (later : Leg). n ≤ later.party.slot) legs → AllByRecursion (λ (later : Leg). n ≢ later.party.slot) legs → AllByRecursion (λ (later : Leg). n < later.party.slot) legs
above n [] least apart = tt
above n (leg ∷ legs) least apart = let low : n ≤ leg.party.slot = least.0 in let other : n ≢ leg.party.slot = apart.0 in (grind arith, above n legs least.1 apart.1)

rising : (legs : List Leg) → Ranked legs → PartiesDiffer legs → AreRising legs
rising [] rank apart = tt
rising (leg ∷ legs) rank apart = (above leg.party.slot legs rank.0 apart.0, rising legs rank.1 apart.1)

pub ordered_rise : (legs : List Leg) → PartiesDiffer legs → AreRising (in_order legs)
ordered_rise legs apart = rising (in_order legs) (order_ranked legs) (differ_ordered legs apart)
