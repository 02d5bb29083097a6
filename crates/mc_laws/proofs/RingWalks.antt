-- Walks on rings: a walk meets no end exactly where its slot stands on a ring, and a ring is the same from each of its slots.
use Rattle.std.proofs.Common.{◌≡◌, ◌≢◌, ◌<◌, ◌≤◌, ◌+◌, ◌-◌, ◌*◌, inl, inr, ℕ, zero, suc, IsTrue, Option, Some, None, length, refl, ap, sym, ◌∙◌, subst, arith}
use Rattle.std.specs.Option.{option_and_then}
use Rattle.mc_slot.specs.declared.SlotGoal.{SlotGoal}
use Rattle.mc_slot.specs.declared.SlotGoal.TheVariants.{End, Link}
use Rattle.mc_box.proofs.Options.{then_some}
use Rattle.mc_slot.specs.EndTurn.{is_end_goal}
use Rattle.mc_model.specs.Paths.{end_after, next_slot, other_end, partner_of, slot_after, walk}
use Rattle.mc_model.specs.Rings.{IsOnRing, RingsMeetNoEnd}
use Rattle.mc_model.specs.Sound.{IsSound}
use Rattle.mc_model.specs.Worlds.{WorldState, far, goal_of, all_tunnels, slot_count}
use Rattle.mc_laws.proofs.ActedWorlds.{far_inside}
use Rattle.mc_laws.proofs.Partners.{by_goal, has_partner, next_is, one_before}
use Rattle.mc_laws.proofs.RingChains.{after_inside, after_parts, after_sum, no_way_back, ring_by}
use Rattle.mc_laws.proofs.Numbers.{some_same}
use Rattle.mc_laws.proofs.Walks.{after_first, after_more, after_next, end_alone, end_beyond, end_here, end_linked, end_parts}

-- ---- walks by their chains

none_or_some : (s : ℕ) → Some s ≡ None → ⊥
none_or_some s is = cc

-- a walk that meets no end goes on at a partner
on_by : (world : WorldState) (most s : ℕ) (goal : SlotGoal) → IsSound world → s < slot_count world → goal_of world s ≡ goal → end_beyond world most s ≡ None
    → (t : ℕ) × (partner_of world s ≡ Some t) × (end_after world (walk world (Some t) most) ≡ None)
on_by world most s (End goal) sound inside aims none = absurd (none_or_some s (sym (end_here world most s (ap is_end_goal aims)) ∙ none))
on_by world most s (Link partner) sound inside aims none =
    let link = has_partner world s partner sound inside aims in
    let is : partner_of world s ≡ Some link.0 = by_goal world s (Link partner) aims ∙ link.1 in
    (link.0, is, sym (end_linked world most s link.0 is) ∙ none)

-- so its chain goes on for as long as the walk meets no end
chain_of : (world : WorldState) (done left s : ℕ) → IsSound world → s < slot_count world → end_after world (walk world (Some s) (left + done)) ≡ None
    → (t : ℕ) × (slot_after world done s ≡ Some t) × (end_after world (walk world (Some t) left) ≡ None)
chain_of world zero left s sound inside none =
    let all : left + 0 ≡ left = omega arith in
    (s, refl, subst (λ (n : ℕ). end_after world (walk world (Some s) n) ≡ None) all none)
chain_of world (suc done) left s sound inside none =
    let one : left + suc done ≡ suc left + done = omega arith in
    let before = chain_of world done (suc left) s sound inside (subst (λ (n : ℕ). end_after world (walk world (Some s) n) ≡ None) one none) in
    let there = after_inside world done s before.0 sound inside before.1 in
    let on = on_by world left (far before.0) (goal_of world (far before.0)) sound (far_inside world before.0 there) refl before.2 in
    (on.0, after_more world done s ∙ (ap (λ (o : Option ℕ). option_and_then (next_slot world) o) before.1 ∙ on.1), on.2)

-- and over a chain it meets none
no_end : (world : WorldState) (most s t : ℕ) → slot_after world most s ≡ Some t → end_after world (walk world (Some s) most) ≡ None
no_end world zero s t is = refl
no_end world (suc most) s t is =
    let next = then_some (λ (n : ℕ). slot_after world most n) (next_slot world s) t (sym (after_first world most s) ∙ is) in
    end_linked world most (far s) next.0 next.1 ∙ no_end world most next.0 t next.2

-- ---- rings

-- as often as one goes round a ring, one comes back
rounds : (world : WorldState) (s : ℕ) (ring : IsOnRing world s) (times : ℕ) → slot_after world (ring.count * times) s ≡ Some s
rounds world s ring zero = let none : ring.count * 0 ≡ 0 = omega arith in ap (λ (n : ℕ). slot_after world n s) none
rounds world s ring (suc times) =
    let one : ring.count * suc times ≡ ring.count + ring.count * times = omega arith in
    ap (λ (n : ℕ). slot_after world n s) one ∙ (after_sum world ring.count (ring.count * times) s s ring.back ∙ rounds world s ring times)

-- so a chain on a ring comes to no end
pub goes_round : (world : WorldState) (s count : ℕ) → IsOnRing world s → (t : ℕ) × (slot_after world count s ≡ Some t)
goes_round world s count ring =
    let enough : count ≤ ring.count * count = omega (arith, at_least ring.count count ring.some) in
    let sum : count + (ring.count * count - count) ≡ ring.count * count = omega (arith, enough) in
    let parts = after_parts world count (ring.count * count - count) s s (ap (λ (n : ℕ). slot_after world n s) sum ∙ rounds world s ring count) in
    (parts.0, parts.1)
  where
    at_least : (times count : ℕ) → 0 < times → count ≤ times * count
    at_least zero count some = absurd (omega (arith, some))
    at_least (suc times) count some = let is : suc times * count ≡ times * count + count = omega arith in omega (arith, is)

-- a slot further on stands on the ring
pub ring_after : (world : WorldState) (s t count : ℕ) → IsOnRing world s → slot_after world count s ≡ Some t → IsOnRing world t
ring_after world s t count ring is =
    let turned : count + ring.count ≡ ring.count + count = omega arith in
    record {
      count = ring.count;
      some = ring.some;
      back = sym (after_sum world count ring.count s t is) ∙ (ap (λ (n : ℕ). slot_after world n s) turned ∙ (after_sum world ring.count count s s ring.back ∙ is));
    }

-- and so does the slot before
one_back : (world : WorldState) (s t count : ℕ) → IsSound world → s < slot_count world → next_slot world s ≡ Some t → IsOnRing world t → slot_after world (suc count) t ≡ Some t → IsOnRing world s
one_back world s t count sound inside is ring back =
    let there = (next_is world s t sound inside is).inside in
    let last = then_some (next_slot world) (slot_after world count t) t (sym (after_more world count t) ∙ back) in
    let same : last.0 ≡ s = one_before world last.0 s t sound (after_inside world count t last.0 sound there last.1) inside last.2 is in
    record { count = suc count; some = omega arith; back = after_next world count s t is ∙ (last.1 ∙ ap Some same) }

pub ring_before : (world : WorldState) (s t count : ℕ) → IsSound world → s < slot_count world → slot_after world count s ≡ Some t → IsOnRing world t → IsOnRing world s
ring_before world s t zero sound inside is ring = subst (IsOnRing world) (sym (some_same s t is)) ring
ring_before world s t (suc count) sound inside is ring =
    let last = then_some (next_slot world) (slot_after world count s) t (sym (after_more world count s) ∙ is) in
    let there = after_inside world count s last.0 sound inside last.1 in
    let sum : suc (ring.count - 1) ≡ ring.count = omega (arith, ring.some) in
    ring_before world s last.0 count sound inside last.1
    (one_back world last.0 t (ring.count - 1) sound there last.2 ring (ap (λ (n : ℕ). slot_after world n t) sum ∙ ring.back))

-- a slot of a ring has a partner
pub ring_partner : (world : WorldState) (s : ℕ) → IsSound world → s < slot_count world → IsOnRing world s → (t : ℕ) × (partner_of world s ≡ Some t)
ring_partner world s sound inside ring =
    let sum : suc (ring.count - 1) ≡ ring.count = omega (arith, ring.some) in
    let last = then_some (next_slot world) (slot_after world (ring.count - 1) s) s (sym (after_more world (ring.count - 1) s) ∙ (ap (λ (n : ℕ). slot_after world n s) sum ∙ ring.back)) in
    let there = after_inside world (ring.count - 1) s last.0 sound inside last.1 in
    (far last.0, (next_is world last.0 s sound there last.2).back)

pub rings_meet_no_end : RingsMeetNoEnd
rings_meet_no_end world s sound inside = (meets, comes)
  where
    meets : other_end world s ≡ None → IsOnRing world s
    meets none =
        let sum : length (all_tunnels world) ≡ 0 + length (all_tunnels world) = omega arith in
        let chain = chain_of world (length (all_tunnels world)) 0 s sound inside (subst (λ (n : ℕ). end_after world (walk world (Some s) n) ≡ None) sum none) in
        ring_by world s chain.0 sound inside chain.1

    comes : IsOnRing world s → other_end world s ≡ None
    comes ring =
        let round = goes_round world s (length (all_tunnels world)) ring in
        no_end world (length (all_tunnels world)) s round.0 round.1

-- ---- ends

is_there : (o : Option ℕ) → (o ≡ None → ⊥) → (t : ℕ) × (o ≡ Some t)
is_there None some = absurd (some refl)
is_there (Some t) some = (t, refl)

-- the walk from an end comes to an end
pub end_is_met : (world : WorldState) (s : ℕ) → IsSound world → s < slot_count world → IsTrue (is_end_goal (goal_of world s)) → (t : ℕ) × (other_end world s ≡ Some t)
end_is_met world s sound inside end =
    is_there (other_end world s)
    (λ none. let on : IsOnRing world s = (rings_meet_no_end world s sound inside).0 none in let link = ring_partner world s sound inside on in none_or_some link.0 (sym link.1 ∙ end_alone world s end))

-- the last tunnel of a walk, by its near slot
last_tunnel : (world : WorldState) (most s t : ℕ) → end_after world (walk world (Some s) most) ≡ Some t → (count : ℕ) × (last : ℕ) × (slot_after world count s ≡ Some last) × (far last ≡ t)
last_tunnel world zero s t comes = absurd (none_or_some t (sym comes))
last_tunnel world (suc most) s t comes = elim (end_parts world most (far s) t comes) [
  | inl here ↦ (0, s, refl, here.1)
  | inr on ↦ let rest = last_tunnel world most on.0 t on.2 in (suc rest.0, rest.1, after_next world rest.0 s on.0 on.1 ∙ rest.2, rest.3)
]

-- which is another one
pub met_is_other : (world : WorldState) (s t : ℕ) → IsSound world → s < slot_count world → other_end world s ≡ Some t → s ≢ t
met_is_other world s t sound inside walk same =
    let last = last_tunnel world (length (all_tunnels world)) s t walk in
    no_way_back world last.0 s last.1 sound inside last.2 (same ∙ sym last.3)
