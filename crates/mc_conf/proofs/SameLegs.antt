-- The same legs give the same pairs.
use Rattle.std.proofs.Common.{◌≡◌, ◌<◌, ◌↔◌, inl, inr, List, [], ◌∷◌, refl, ap, sym, ◌∙◌, arith}
use Rattle.mc_conf.specs.Legs.{in_order, legs_in}
use Rattle.mc_conf.specs.Mixes.{mixes_of}
use Rattle.mc_conf.specs.Pairs.{OthersChangeNothing}
use Rattle.mc_conf.specs.declared.party.Leg.{Leg}
use Rattle.mc_conf.proofs.LegLaws.{AreRising, has_leg, in_ordered, leg_in, ordered_in, ordered_rise}
use Rattle.mc_conf.proofs.Members.{IsIn, all_in}

abbrev HaveSame : (xs ys : List Leg) → Type 0
HaveSame xs ys = (leg : Leg) → IsIn leg xs ↔ IsIn leg ys

heads : (x y : Leg) (xs ys : List Leg) → AreRising (x ∷ xs) → AreRising (y ∷ ys) → IsIn x (y ∷ ys) → IsIn y (x ∷ xs) → x ≡ y
heads x y xs ys one two (inl is) there = is
heads x y xs ys one two (inr later) (inl is) = sym is
heads x y xs ys one two (inr later) (inr after) =
    let low : y.party.slot < x.party.slot = all_in (λ (leg : Leg). y.party.slot < leg.party.slot) ys x two.0 later in
    let high : x.party.slot < y.party.slot = all_in (λ (leg : Leg). x.party.slot < leg.party.slot) xs y one.0 after in
    absurd (omega (arith, low, high))

later_in : (x y leg : Leg) (xs ys : List Leg) → x ≡ y → AreRising (x ∷ xs) → IsIn leg xs → IsIn leg (y ∷ ys) → IsIn leg ys
later_in x y leg xs ys same one here (inr later) = later
later_in x y leg xs ys same one here (inl is) =
    let low : x.party.slot < leg.party.slot = all_in (λ (other : Leg). x.party.slot < other.party.slot) xs leg one.0 here in
    let alike : leg.party.slot ≡ x.party.slot = ap (λ (other : Leg). other.party.slot) (is ∙ sym same) in
    absurd (omega (arith, low, alike))

cons_same : (x y : Leg) (xs ys : List Leg) → x ≡ y → xs ≡ ys → x ∷ xs ≡ y ∷ ys
cons_same x y xs ys one two = cc

same_list : (xs ys : List Leg) → AreRising xs → AreRising ys → HaveSame xs ys → xs ≡ ys
same_list [] [] one two both = refl
same_list [] (y ∷ ys) one two both = absurd ((both y).1 (inl refl))
same_list (x ∷ xs) [] one two both = absurd ((both x).0 (inl refl))
same_list (x ∷ xs) (y ∷ ys) one two both =
    let same : x ≡ y = heads x y xs ys one two ((both x).0 (inl refl)) ((both y).1 (inl refl)) in
    cons_same x y xs ys same
    (same_list xs ys one.1 two.1
    (λ leg. ((λ here. later_in x y leg xs ys same one here ((both leg).0 (inr here))), (λ there. later_in y x leg ys xs (sym same) two there ((both leg).1 (inr there))))))

pub same_mixes : OthersChangeNothing
same_mixes one other who apart_one apart_other same =
    ap mixes_of
    (same_list (in_order (legs_in one who)) (in_order (legs_in other who)) (ordered_rise (legs_in one who) apart_one) (ordered_rise (legs_in other who) apart_other)
    (λ leg. (
      (λ here. in_ordered leg (legs_in other who) (leg_in other who leg ((same leg).0 (has_leg one who leg (ordered_in leg (legs_in one who) here))))),
      (λ there. in_ordered leg (legs_in one who) (leg_in one who leg ((same leg).1 (has_leg other who leg (ordered_in leg (legs_in other who) there))))),
    )))
