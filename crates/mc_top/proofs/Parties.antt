-- No slot is the party of two legs of a box, since each end is an end of one path.
use Rattle.std.proofs.Common.{◌≡◌, ◌≢◌, ◌⊎◌, ◌<◌, ◌≤◌, ◌+◌, ◌∙◌, inl, inr, cond, ℕ, Bool, true, false, All, Option, Some, None, List, [], ◌∷◌, count_by, length, map, refl, ap, sym, subst, arith}
use Rattle.std.specs.List.{AllByRecursion, cons_option, filter_map}
use Rattle.std.proofs.lemmas.List.Elements.{recursion_from_All}
use Rattle.std.proofs.lemmas.List.Sums.{sum_by-cons}
use Rattle.mc_conf.proofs.AllPairs.{all_pairs}
use Rattle.mc_conf.proofs.LegLaws.{leg_is}
use Rattle.mc_conf.proofs.Members.{IsIn, each_in, given}
use Rattle.mc_conf.specs.Legs.{IsLeg, leg_of}
use Rattle.mc_conf.specs.Pairs.{PartiesDiffer}
use Rattle.mc_conf.specs.declared.party.Leg.{Leg}
use Rattle.mc_model.specs.Paths.{PathEnds, path_from, paths}
use Rattle.mc_model.specs.Sound.{IsSound}
use Rattle.mc_model.specs.Worlds.{WorldState, all_tunnels, goal_of, places, slot_count}
use Rattle.mc_slot.specs.EndTurn.{is_end_goal}
use Rattle.mc_path.specs.Views.{view_of}
use Rattle.mc_path_laws.proofs.Ends.{each_end_once, high_ends, low_ends, parts_of}
use Rattle.mc_path_laws.proofs.Quiet.{each_from}
use Rattle.mc_path_laws.proofs.Returns.{walk_back}
use Rattle.mc_path_laws.specs.PathLaws.{is_end_of}
use Rattle.mc_top.specs.ConferenceLaws.{ConferencesAreAllPairs}
use Rattle.mc_view.specs.declared.PathView.{PathView}

-- ---- counts

count_in : (p : PathEnds → Bool) (path : PathEnds) (rest : List PathEnds) (here : Bool) → p path ≡ here → count_by p (path ∷ rest) ≡ cond here 1 0 + count_by p rest
count_in p path rest here is = sum_by-cons (λ (x : PathEnds). cond (p x) 1 0) path rest ∙ ap (λ (b : Bool). cond b 1 0 + count_by p rest) is

at_most_by : (here : Bool) (all rest most : ℕ) → all ≡ cond here 1 0 + rest → all ≤ most → rest ≤ most
at_most_by true all rest most is few = let one : all ≡ 1 + rest = is in omega (arith, one, few)
at_most_by false all rest most is few = let none : all ≡ 0 + rest = is in omega (arith, none, few)

-- of some of these no more pass than of all
count_rest : (p : PathEnds → Bool) (path : PathEnds) (rest : List PathEnds) (most : ℕ) → count_by p (path ∷ rest) ≤ most → count_by p rest ≤ most
count_rest p path rest most few = at_most_by (p path) (count_by p (path ∷ rest)) (count_by p rest) most (count_in p path rest (p path) refl) few

at_least_by : (here : Bool) (all rest : ℕ) → all ≡ cond here 1 0 + rest → 1 ≤ rest → 1 ≤ all
at_least_by true all rest is some = let one : all ≡ 1 + rest = is in omega (arith, one)
at_least_by false all rest is some = let none : all ≡ 0 + rest = is in omega (arith, none, some)

-- one that passes counts
count_some : (p : PathEnds → Bool) (xs : List PathEnds) (path : PathEnds) → IsIn path xs → p path ≡ true → 1 ≤ count_by p xs
count_some p [] path in_it is = absurd in_it
count_some p (first ∷ rest) path (inl same) is =
    let one : count_by p (first ∷ rest) ≡ 1 + count_by p rest = count_in p first rest true (ap p (sym same) ∙ is) in
    omega (arith, one)
count_some p (first ∷ rest) path (inr later) is = at_least_by (p first) (count_by p (first ∷ rest)) (count_by p rest) (count_in p first rest (p first) refl) (count_some p rest path later is)

-- ---- one leg

-- its party is at an end of its path
leg_end : (world : WorldState) (who : ℕ) (path : PathEnds) (leg : Leg) → IsLeg who (view_of world path) leg → (path.high ≡ leg.party.slot) ⊎ (path.low ≡ leg.party.slot)
leg_end world who path leg it = elim it.ends [
  | inl ends ↦ inl (sym (ap (λ end. end.slot) ends.1))
  | inr ends ↦ inr (sym (ap (λ end. end.slot) ends.1))
]

leg_test : (path : PathEnds) (s : ℕ) → (path.high ≡ s) ⊎ (path.low ≡ s) → is_end_of s path ≡ true
leg_test path s (inl high) = high_ends path.low path.high s high
leg_test path s (inr low) = low_ends path.low path.high s low

ends_at : (world : WorldState) (who : ℕ) (path : PathEnds) (leg : Leg) → leg_of who (view_of world path) ≡ Some leg → is_end_of leg.party.slot path ≡ true
ends_at world who path leg is = leg_test path leg.party.slot (leg_end world who path leg (leg_is who (view_of world path) leg is))

-- ---- all legs

-- an end's slot
record IsEnd (world : WorldState) (s : ℕ) : Type 0 where
  pub inside : s < slot_count world
  pub aims : is_end_goal (goal_of world s) ≡ true

record HasEnds (world : WorldState) (path : PathEnds) : Type 0 where
  pub low : IsEnd world path.low
  pub high : IsEnd world path.high

-- each end is one of one path at most
abbrev AreApart : WorldState → List PathEnds → Type 0
AreApart world xs = (s : ℕ) → IsEnd world s → count_by (is_end_of s) xs ≤ 1

party_end : (world : WorldState) (path : PathEnds) (s : ℕ) → HasEnds world path → (path.high ≡ s) ⊎ (path.low ≡ s) → IsEnd world s
party_end world path s ends (inl high) = subst (IsEnd world) high ends.high
party_end world path s ends (inr low) = subst (IsEnd world) low ends.low

in_mapped : (world : WorldState) (xs : List PathEnds) (view : PathView) → IsIn view (map (view_of world) xs) → (path : PathEnds) × IsIn path xs × (view_of world path ≡ view)
in_mapped world [] view in_it = absurd in_it
in_mapped world (path ∷ rest) view (inl is) = (path, inl refl, sym is)
in_mapped world (path ∷ rest) view (inr later) = let found = in_mapped world rest view later in (found.0, inr found.1, found.2)

-- no later leg has the party of this one
later_apart : (world : WorldState) (who : ℕ) (path : PathEnds) (rest : List PathEnds) (leg other : Leg) → HasEnds world path → AreApart world (path ∷ rest) → leg_of who (view_of world path) ≡ Some leg
    → IsIn other (filter_map (leg_of who) (map (view_of world) rest)) → leg.party.slot ≡ other.party.slot → ⊥
later_apart world who path rest leg other ends apart is in_it same =
    let from = given (leg_of who) (map (view_of world) rest) other in_it in
    let found = in_mapped world rest from.0 from.1 in
    let there : is_end_of other.party.slot found.0 ≡ true = ends_at world who found.0 other (ap (leg_of who) found.2 ∙ from.2) in
    let also : is_end_of leg.party.slot found.0 ≡ true = ap (λ (s : ℕ). is_end_of s found.0) same ∙ there in
    let few : count_by (is_end_of leg.party.slot) (path ∷ rest) ≤ 1 = apart leg.party.slot (party_end world path leg.party.slot ends (leg_end world who path leg (leg_is who (view_of world path) leg is))) in
    let one : count_by (is_end_of leg.party.slot) (path ∷ rest) ≡ 1 + count_by (is_end_of leg.party.slot) rest = count_in (is_end_of leg.party.slot) path rest true (ends_at world who path leg is) in
    let more : 1 ≤ count_by (is_end_of leg.party.slot) rest = count_some (is_end_of leg.party.slot) rest found.0 found.1 also in
    absurd (omega (arith, few, one, more))

differ_by : (found : Option Leg) (legs : List Leg) → ((leg : Leg) → found ≡ Some leg → (other : Leg) → IsIn other legs → leg.party.slot ≡ other.party.slot → ⊥) → PartiesDiffer legs → PartiesDiffer (cons_option found legs)
differ_by None legs apart all = all
differ_by (Some leg) legs apart all = (each_in (λ (other : Leg). leg.party.slot ≢ other.party.slot) legs (apart leg refl), all)

all_differ : (world : WorldState) (who : ℕ) (xs : List PathEnds) → AllByRecursion (HasEnds world) xs → AreApart world xs → PartiesDiffer (filter_map (leg_of who) (map (view_of world) xs))
all_differ world who [] ends apart = tt
all_differ world who (path ∷ rest) ends apart =
    differ_by (leg_of who (view_of world path)) (filter_map (leg_of who) (map (view_of world) rest))
    (λ leg is other in_it same. later_apart world who path rest leg other ends.0 apart is in_it same)
    (all_differ world who rest ends.1 (λ s end. count_rest (is_end_of s) path rest 1 (apart s end)))

-- ---- a world

have_ends : (world : WorldState) → IsSound world → All (HasEnds world) (paths world)
have_ends world sound =
    each_from (HasEnds world) (path_from world) (places world) 0 (slot_count world) (omega arith)
    (λ s inside path is.
    let parts = parts_of world s path is in
    let back = walk_back (length (all_tunnels world)) world s path.high sound inside parts.leads in
    record {
      low = subst (IsEnd world) (sym parts.low_is) (record { inside = inside; aims = parts.aims });
      high = record { inside = back.inside; aims = back.aims };
    })

le_one : (n : ℕ) → n ≡ 1 → n ≤ 1
le_one n is = omega (arith, is)

pub conferences_are_all_pairs : ConferencesAreAllPairs
conferences_are_all_pairs world who sound =
    all_pairs (map (view_of world) (paths world)) who
    (all_differ world who (paths world) (recursion_from_All (HasEnds world) (paths world) (have_ends world sound))
    (λ s end. le_one (count_by (is_end_of s) (paths world)) (each_end_once world s sound end.inside end.aims)))
