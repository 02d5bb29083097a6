-- How far it is from each slot to the end of its path, in a world without a ring.
use Rattle.std.proofs.Common.{◌≡◌, ◌<◌, ◌≤◌, ◌+◌, ◌||◌, cond, ℕ, zero, suc, Bool, true, false, List, [], ◌∷◌, Option, Some, None, length, map, refl, ap, sym, ◌∙◌, arith}
use Rattle.std.specs.List.{enumerate_from, find, list_any}
use Rattle.std.specs.Option.{is_none}
use Rattle.mc_signal.specs.declared.Tagged.{Tagged}
use Rattle.mc_slot.specs.EndTurn.{is_end_goal}
use Rattle.mc_slot.specs.declared.Goal.{Goal}
use Rattle.mc_slot.specs.declared.SlotGoal.{SlotGoal}
use Rattle.mc_slot.specs.declared.SlotGoal.TheVariants.{End, Link}
use Rattle.mc_box.specs.Boxes.{BoxState, goal_at}
use Rattle.mc_laws.specs.Measures.{base, reach}
use Rattle.mc_model.specs.Paths.{end_after, has_ring, next_slot, other_end, partner_by, partner_of, walk}
use Rattle.mc_model.specs.Worlds.{WorldState, box_at, far, goal_of, all_tunnels, number, place, places, slot_count}
use Rattle.mc_laws.proofs.ActedWorlds.{far_inside}
use Rattle.mc_laws.proofs.BothWays.{any_passes}
use Rattle.mc_laws.proofs.TunnelPlaces.{two_each}
use Rattle.mc_laws.proofs.Numbers.{far_back}
use Rattle.mc_laws.proofs.Partners.{by_goal}
use Rattle.mc_laws.proofs.Walks.{length_most, length_some, walk_stays}

-- ---- walks that come to ends

-- a test that no entry passes
none_any : (value : Bool) (entries : List (ℕ × ℕ)) (s : ℕ) (p : ℕ → Bool) → s < length entries → p s ≡ value → list_any (λ entry. p entry.0) (enumerate_from 0 entries) ≡ false → p s ≡ false
none_any false entries s p below is none = is
none_any true entries s p below is none =
    let some : list_any (λ entry. p entry.0) (enumerate_from 0 entries) ≡ true = any_passes entries 0 s p (omega arith) (omega (arith, below)) is in
    absurd (cc)

-- an option that isn't none has a value
is_some : (o : Option ℕ) → is_none o ≡ false → (t : ℕ) × (o ≡ Some t)
is_some None is = absurd (cc)
is_some (Some t) is = (t, refl)

-- without a ring each walk comes to an end
pub comes_to_end : (world : WorldState) (s : ℕ) → has_ring world ≡ false → s < slot_count world → (t : ℕ) × (other_end world s ≡ Some t)
comes_to_end world s free inside =
    is_some (other_end world s) (none_any (is_none (other_end world s)) (places world) s (λ (t : ℕ). is_none (other_end world t)) inside refl free)

-- ---- how far it is

-- tunnels from each slot, for a number n that these are below: one at an end's far slot, and one more than from its partner at a linked slot's
pub record Reaches (world : WorldState) (n : ℕ) (tunnels : ℕ → ℕ) : Type 0 where
  pub some : (s : ℕ) → s < slot_count world → 1 ≤ tunnels s
  pub less : (s : ℕ) → s < slot_count world → tunnels s < n
  pub at_end : (s : ℕ) (goal : Goal) → s < slot_count world → goal_of world s ≡ End goal → tunnels (far s) ≡ 1
  pub at_link : (s partner t : ℕ) → s < slot_count world → goal_of world s ≡ Link partner → number world (place world s).0 partner ≡ Some t → tunnels (far s) ≡ tunnels t + 1

-- from a far slot
from_far : (world : WorldState) (s : ℕ) (next : Option ℕ) → has_ring world ≡ false → s < slot_count world → partner_of world s ≡ next → reach world (far s) ≡ suc (length (walk world next (length (all_tunnels world))))
from_far world s next free inside is =
    let end = comes_to_end world (far s) free (far_inside world s inside) in
    sym (ap (λ (slots : List ℕ). length slots) (walk_stays (length (all_tunnels world)) world (far s) end.0 end.1))
    ∙ (ap (λ (t : ℕ). suc (length (walk world (partner_of world t) (length (all_tunnels world))))) (far_back s)
    ∙ ap (λ (o : Option ℕ). suc (length (walk world o (length (all_tunnels world))))) is)

-- so in a world without a ring its counts are as the sums ask for them
pub reaches : (world : WorldState) → has_ring world ≡ false → Reaches world (base world) (reach world)
reaches world free = record {
  some = λ s inside. length_some (length (all_tunnels world)) world s (omega (arith, inside, two_each world.channels 0));
  less = λ s inside. omega (arith, length_most (length (all_tunnels world)) world (Some s));
  at_end = λ s goal inside aims. from_far world s None free inside (by_goal world s (End goal) aims);
  at_link = λ s partner t inside aims is. omega (arith, from_far world s (Some t) free inside (by_goal world s (Link partner) aims ∙ is));
}

-- ---- where the goals stay

-- other boxes and lanes, with the goals of these boxes
abbrev pub with_boxes : WorldState → List BoxState → List (List Tagged) → WorldState
with_boxes world boxes lanes = record world { boxes = boxes; lanes = lanes }

-- the goals of all slots stay
abbrev pub GoalsStay : WorldState → WorldState → Type 0
GoalsStay new old = (who local : ℕ) → goal_at (box_at new who) local ≡ goal_at (box_at old who) local

-- partners stay then
pub partner_same : (world : WorldState) (boxes : List BoxState) (lanes : List (List Tagged)) (s : ℕ) → GoalsStay (with_boxes world boxes lanes) world → partner_of (with_boxes world boxes lanes) s ≡ partner_of world s
partner_same world boxes lanes s stay =
    ap (λ (g : SlotGoal). partner_by (with_boxes world boxes lanes) g s) (stay (place world s).0 (place world s).1) ∙ by_same (goal_of world s)
  where
    by_same : (goal : SlotGoal) → partner_by (with_boxes world boxes lanes) goal s ≡ partner_by world goal s
    by_same (End goal) = refl
    by_same (Link partner) = refl

-- so each walk goes the same way
pub walk_same : (most : ℕ) (world : WorldState) (boxes : List BoxState) (lanes : List (List Tagged)) (next : Option ℕ) → GoalsStay (with_boxes world boxes lanes) world
    → walk (with_boxes world boxes lanes) next most ≡ walk world next most
walk_same most world boxes lanes None stay = refl
walk_same zero world boxes lanes (Some s) stay = refl
walk_same (suc most) world boxes lanes (Some s) stay =
    ap (λ (o : Option ℕ). s ∷ walk (with_boxes world boxes lanes) o most) (partner_same world boxes lanes (far s) stay)
    ∙ ap (λ (slots : List ℕ). s ∷ slots) (walk_same most world boxes lanes (next_slot world s) stay)

-- each slot is as far from its end
pub reach_same : (world : WorldState) (boxes : List BoxState) (lanes : List (List Tagged)) (s : ℕ) → GoalsStay (with_boxes world boxes lanes) world → reach (with_boxes world boxes lanes) s ≡ reach world s
reach_same world boxes lanes s stay = ap (λ (slots : List ℕ). length slots) (walk_same (length (all_tunnels world)) world boxes lanes (Some s) stay)

-- and each walk comes to the same end
pub end_same : (most : ℕ) (world : WorldState) (boxes : List BoxState) (lanes : List (List Tagged)) (s : ℕ) → GoalsStay (with_boxes world boxes lanes) world
    → end_after (with_boxes world boxes lanes) (walk (with_boxes world boxes lanes) (Some s) most) ≡ end_after world (walk world (Some s) most)
end_same most world boxes lanes s stay =
    found_same (map far (walk (with_boxes world boxes lanes) (Some s) most)) (λ (t : ℕ). is_end_goal (goal_of (with_boxes world boxes lanes) t)) (λ (t : ℕ). is_end_goal (goal_of world t))
    (λ t. ap is_end_goal (stay (place world t).0 (place world t).1))
    ∙ ap (end_after world) (walk_same most world boxes lanes (Some s) stay)
  where
    found_same : (slots : List ℕ) (p q : ℕ → Bool) → ((s : ℕ) → p s ≡ q s) → find p slots ≡ find q slots
    found_same [] p q same = refl
    found_same (s ∷ slots) p q same = ap (λ (b : Bool). cond b (Some s) (find p slots)) (same s) ∙ ap (λ (o : Option ℕ). cond (q s) (Some s) o) (found_same slots p q same)

-- some entry passes the same test
any_same : (entries : List (ℕ × ℕ)) (p q : ℕ → Bool) (first : ℕ) → ((s : ℕ) → p s ≡ q s)
    → list_any (λ entry. p entry.0) (enumerate_from first entries) ≡ list_any (λ entry. q entry.0) (enumerate_from first entries)
any_same [] p q first same = refl
any_same (entry ∷ entries) p q first same =
    ap (λ (b : Bool). b || list_any (λ entry. p entry.0) (enumerate_from (first + 1) entries)) (same first)
    ∙ ap (λ (b : Bool). q first || b) (any_same entries p q (first + 1) same)

-- and there are rings as before
pub ring_same : (world : WorldState) (boxes : List BoxState) (lanes : List (List Tagged)) → GoalsStay (with_boxes world boxes lanes) world → has_ring (with_boxes world boxes lanes) ≡ has_ring world
ring_same world boxes lanes stay =
    any_same (places world) (λ (s : ℕ). is_none (other_end (with_boxes world boxes lanes) s)) (λ (s : ℕ). is_none (other_end world s)) 0
    (λ s. ap (λ (o : Option ℕ). is_none o) (end_same (length (all_tunnels world)) world boxes lanes s stay))
