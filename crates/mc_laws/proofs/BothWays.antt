-- Two walks from a slot, one each way, and what they tell of rings.
use Rattle.std.proofs.Common.{◌≡◌, ◌<◌, ◌≤◌, ◌+◌, ◌*◌, ◌/◌, ◌||◌, ◌↔◌, inl, inr, ℕ, suc, Bool, true, false, IsTrue, List, [], ◌∷◌, Option, Some, None, length, min, refl, ap, sym, ◌∙◌, subst, arith}
use Rattle.std.specs.List.{enumerate_from, list_any}
use Rattle.std.specs.Option.{is_none, is_some, option_and_then}
use Rattle.std.proofs.lemmas.Bool.{cases_eq, cases_lt}
use Rattle.mc_model.specs.Paths.{has_ring, next_slot, other_end, partner_of, slot_after}
use Rattle.mc_model.specs.Rings.{IsOnRing, IsLeastOnRing, NoneBefore}
use Rattle.mc_model.specs.Sound.{IsSound}
use Rattle.mc_model.specs.Worlds.{WorldState, far, all_tunnels, places, slot_count}
use Rattle.mc_laws.proofs.ActedWorlds.{far_inside}
use Rattle.mc_laws.proofs.TunnelPlaces.{two_each}
use Rattle.mc_laws.proofs.Numbers.{far_back}
use Rattle.mc_laws.proofs.Partners.{are_linked, next_is}
use Rattle.mc_laws.proofs.RingChains.{ring_by}
use Rattle.mc_laws.proofs.RingWalks.{goes_round, ring_after, ring_before, ring_partner, rings_meet_no_end}
use Rattle.mc_laws.proofs.Walks.{after_more, after_next}

-- so many tunnels from a slot: the one walk is at a slot ahead of it, the other at a slot after
pub record WalkBoth (world : WorldState) (s done ahead behind : ℕ) : Type 0 where
  pub ahead_inside : ahead < slot_count world
  pub ahead_is : slot_after world done s ≡ Some ahead
  pub behind_inside : behind < slot_count world
  pub behind_is : slot_after world done behind ≡ Some s

-- and go one tunnel on, each its way
pub both_on : (world : WorldState) (s done ahead behind next last : ℕ) → IsSound world → WalkBoth world s done ahead behind
    → partner_of world (far ahead) ≡ Some next → partner_of world behind ≡ Some last → WalkBoth world s (done + 1) next (far last)
both_on world s done ahead behind next last sound walk to_next to_last =
    let one : done + 1 ≡ suc done = omega arith in
    let link = are_linked world behind last sound walk.behind_inside to_last in
    let back : next_slot world (far last) ≡ Some behind = ap (partner_of world) (far_back last) ∙ link.back in
    record {
      ahead_inside = (next_is world ahead next sound walk.ahead_inside to_next).inside;
      ahead_is = ap (λ (n : ℕ). slot_after world n s) one ∙ (after_more world done s ∙ (ap (λ (o : Option ℕ). option_and_then (next_slot world) o) walk.ahead_is ∙ to_next));
      behind_inside = far_inside world last link.inside;
      behind_is = ap (λ (n : ℕ). slot_after world n (far last)) one ∙ (after_next world done (far last) behind back ∙ walk.behind_is);
    }

-- where the next slots were found one after the other
pub both_next : (world : WorldState) (s done ahead behind other next last before : ℕ) (found found_last : Option ℕ) → IsSound world → WalkBoth world s done ahead behind
    → other ≡ far ahead → found ≡ partner_of world other → found ≡ Some next → found_last ≡ partner_of world behind → found_last ≡ Some last → before ≡ far last → WalkBoth world s (done + 1) next before
both_next world s done ahead behind other next last before found found_last sound walk is_far is_found to_next is_last to_last is_before =
    subst (WalkBoth world s (done + 1) next) (sym is_before)
    (both_on world s done ahead behind next last sound walk (ap (partner_of world) (sym is_far) ∙ (sym is_found ∙ to_next)) (sym is_last ∙ to_last))

-- ---- where the slot stands on no ring

some_is_none : (o : Option ℕ) (s : ℕ) → o ≡ Some s → o ≡ None → ⊥
some_is_none o s some none = let clash : Some s ≡ None = sym some ∙ none in cc

-- a walk ends ahead of it
pub ends_ahead : (world : WorldState) (s done ahead behind : ℕ) → WalkBoth world s done ahead behind → partner_of world (far ahead) ≡ None → IsOnRing world s → ⊥
ends_ahead world s done ahead behind walk none ring =
    let more = goes_round world s (suc done) ring in
    some_is_none (slot_after world (suc done) s) more.0 more.1 (after_more world done s ∙ (ap (λ (o : Option ℕ). option_and_then (next_slot world) o) walk.ahead_is ∙ none))

-- or after it
pub ends_behind : (world : WorldState) (s done ahead behind : ℕ) → IsSound world → WalkBoth world s done ahead behind → partner_of world behind ≡ None → IsOnRing world s → ⊥
ends_behind world s done ahead behind sound walk none ring =
    let there = ring_before world behind s done sound walk.behind_inside walk.behind_is ring in
    let link = ring_partner world behind sound walk.behind_inside there in
    some_is_none (partner_of world behind) link.0 link.1 none

-- and none before it does, while a walk comes to such a slot
pub lower_met : (world : WorldState) (s done ahead behind : ℕ) → IsSound world → WalkBoth world s done ahead behind → NoneBefore world s → min ahead behind < s → IsOnRing world s → ⊥
lower_met world s done ahead behind sound walk before lower ring = elim (cases_lt ahead s) [
  | inl first ↦ before ahead first (ring_after world s ahead done ring walk.ahead_is)
  | inr other ↦ before behind (omega (arith, lower, other)) (ring_before world behind s done sound walk.behind_inside walk.behind_is ring)
]

-- ---- where it does

-- the walk ahead came back
pub comes_again : (world : WorldState) (s done behind : ℕ) → WalkBoth world s (done + 1) s behind → IsOnRing world s
comes_again world s done behind walk = record { count = done + 1; some = omega arith; back = walk.ahead_is }

-- or went over as many tunnels as there are
pub whole_way : (world : WorldState) (s done ahead behind : ℕ) → IsSound world → s < slot_count world → WalkBoth world s done ahead behind → done ≡ slot_count world / 2 → IsOnRing world s
whole_way world s done ahead behind sound inside walk all =
    let two : slot_count world ≡ 2 * length (all_tunnels world) = two_each world.channels 0 in
    let most : done ≡ length (all_tunnels world) = omega (arith, all, two) in
    ring_by world s ahead sound inside (subst (λ (n : ℕ). slot_after world n s ≡ Some ahead) most walk.ahead_is)

-- ---- answers

pub is_off : {P : Type 0} → (P → ⊥) → IsTrue false ↔ P
is_off never = (λ clash. absurd cc, λ on. absurd (never on))

pub is_on : {P : Type 0} → P → IsTrue true ↔ P
is_on on = (λ yes. on, λ yes. refl)

-- one slot more isn't on a ring
pub none_yet : (world : WorldState) (s : ℕ) → NoneBefore world s → (IsOnRing world s → ⊥) → NoneBefore world (s + 1)
none_yet world s before off t below ring = elim (cases_eq t s) [
  | inl same ↦ off (subst (IsOnRing world) same ring)
  | inr other ↦ before t (omega (arith, below, other)) ring
]

-- ---- whether there is a ring

-- one of the numbered entries passes
pub any_passes : (entries : List (ℕ × ℕ)) (first s : ℕ) (p : ℕ → Bool) → first ≤ s → s < first + length entries → p s ≡ true → list_any (λ entry. p entry.0) (enumerate_from first entries) ≡ true
any_passes [] first s p from below passes = absurd (omega (arith, from, below))
any_passes (entry ∷ entries) first s p from below passes = elim (cases_eq first s) [
  | inl same ↦ ap (λ (b : Bool). b || list_any (λ entry. p entry.0) (enumerate_from (first + 1) entries)) (ap p same ∙ passes)
  | inr other ↦ or_true (p first) (list_any (λ entry. p entry.0) (enumerate_from (first + 1) entries)) (any_passes entries (first + 1) s p (omega (arith, from, other)) (omega (arith, below)) passes)
]
  where
    or_true : (a b : Bool) → b ≡ true → (a || b) ≡ true
    or_true a b is = grind arith

-- or none does
none_passes : (entries : List (ℕ × ℕ)) (first : ℕ) (p : ℕ → Bool) → ((s : ℕ) → s < first + length entries → p s ≡ false) → list_any (λ entry. p entry.0) (enumerate_from first entries) ≡ false
none_passes [] first p never = refl
none_passes (entry ∷ entries) first p never =
    ap (λ (b : Bool). b || list_any (λ entry. p entry.0) (enumerate_from (first + 1) entries)) (never first (omega arith))
    ∙ none_passes entries (first + 1) p (λ s below. never s (omega (arith, below)))

not_none : (o : Option ℕ) → (o ≡ None → ⊥) → is_none o ≡ false
not_none None some = absurd (some refl)
not_none (Some s) some = refl

-- there is a ring exactly where there is a least slot on one
pub has_by : (world : WorldState) (ring : Option ℕ) → IsSound world → IsLeastOnRing world ring → has_ring world ≡ is_some ring
has_by world (Some s) sound is =
    any_passes (places world) 0 s (λ (t : ℕ). is_none (other_end world t)) (omega arith) (omega (arith, is.inside))
    (ap (λ (o : Option ℕ). is_none o) ((rings_meet_no_end world s sound is.inside).1 is.on))
has_by world None sound is =
    none_passes (places world) 0 (λ (t : ℕ). is_none (other_end world t))
    (λ s below. let inside : s < slot_count world = omega (arith, below) in not_none (other_end world s) (λ none. is s inside ((rings_meet_no_end world s sound inside).0 none)))
