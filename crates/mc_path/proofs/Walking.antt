-- The walk from a slot, a tunnel at a time: what is still to walk from where it has come is what there was to walk at the beginning.
use Rattle.std.proofs.Common.{◌≡◌, ◌<◌, ◌+◌, ◌-◌, ◌*◌, ◌/◌, cond, ℕ, suc, Bool, true, false, Option, Some, None, length, refl, ap, sym, ◌∙◌, arith}
use Rattle.std.specs.Option.{option_map}
use Rattle.mc_slot.specs.EndTurn.{is_end_goal}
use Rattle.mc_slot.specs.declared.Goal.{Goal}
use Rattle.mc_slot.specs.declared.SlotGoal.TheVariants.{End, Link}
use Rattle.mc_model.specs.Paths.{end_after, next_slot, other_end, partner_of, walk, whole_walk}
use Rattle.mc_model.specs.Worlds.{WorldState, far, goal_of, all_tunnels, number, place, slot_count}
use Rattle.mc_laws.proofs.TunnelPlaces.{two_each}
use Rattle.mc_laws.proofs.Numbers.{number_is}
use Rattle.mc_laws.proofs.Partners.{by_goal}
use Rattle.mc_laws.proofs.Walks.{end_alone, end_here}
use Rattle.mc_path.specs.Walks.{walk_from}
use Rattle.mc_path.specs.declared.walk.Walked.{Walked}

-- after so many tunnels the walk from a slot is at another, and is there what it was at the beginning, within the tunnels that are left
pub record StillWalks (world : WorldState) (from done at : ℕ) : Type 0 where
  pub inside : at < slot_count world
  pub end_is : (left : ℕ) → done + left ≡ length (all_tunnels world) → other_end world from ≡ end_after world (walk world (Some at) left)
  pub tunnels_are : (left : ℕ) → done + left ≡ length (all_tunnels world) → length (whole_walk world from) ≡ done + length (walk world (Some at) left)

-- ---- one tunnel

-- a tunnel to a linked slot: its far slot, the box there, and what its partner's number is
pub record LeadsOn (world : WorldState) (at other who partner : ℕ) (next : Option ℕ) : Type 0 where
  pub far_is : other ≡ far at
  pub goal_is : goal_of world other ≡ Link partner
  pub who_is : who ≡ (place world other).0
  pub next_is : number world who partner ≡ next

-- the next slot, by the place of the far slot
next_by : (world : WorldState) (at other who partner : ℕ) (next : Option ℕ) → LeadsOn world at other who partner next → next_slot world at ≡ next
next_by world at other who partner next on =
    ap (partner_of world) (sym on.far_is) ∙ (by_goal world other (Link partner) on.goal_is ∙ (ap (λ (home : ℕ). number world home partner) (sym on.who_is) ∙ on.next_is))

-- no end is there
no_end_at : (world : WorldState) (at other who partner : ℕ) (next : Option ℕ) → LeadsOn world at other who partner next → is_end_goal (goal_of world (far at)) ≡ false
no_end_at world at other who partner next on = ap (λ (s : ℕ). is_end_goal (goal_of world s)) (sym on.far_is) ∙ ap is_end_goal on.goal_is

-- so a walk goes on from there
end_on : (world : WorldState) (left at other who partner : ℕ) (next : Option ℕ) → LeadsOn world at other who partner next → end_after world (walk world (Some at) (suc left)) ≡ end_after world (walk world next left)
end_on world left at other who partner next on =
    ap (λ (b : Bool). cond b (Some (far at)) (end_after world (walk world (next_slot world at) left))) (no_end_at world at other who partner next on)
    ∙ ap (λ (o : Option ℕ). end_after world (walk world o left)) (next_by world at other who partner next on)

length_on : (world : WorldState) (left at other who partner : ℕ) (next : Option ℕ) → LeadsOn world at other who partner next → length (walk world (Some at) (suc left)) ≡ suc (length (walk world next left))
length_on world left at other who partner next on = ap (λ (o : Option ℕ). suc (length (walk world o left))) (next_by world at other who partner next on)

-- ---- a walk

one_more : (done left total : ℕ) → done + 1 + left ≡ total → done + suc left ≡ total
one_more done left total is = omega arith

sum_more : (done more all n : ℕ) → all ≡ done + n → n ≡ suc more → all ≡ done + 1 + more
sum_more done more all n one two = omega arith

-- it goes on from the partner of a linked slot
pub goes_on : (world : WorldState) (from done at other who partner next : ℕ) → StillWalks world from done at → LeadsOn world at other who partner (Some next)
    → StillWalks world from (done + 1) next
goes_on world from done at other who partner next now on = record {
  inside = (number_is world who partner next on.next_is).0;
  end_is = λ left sum. now.end_is (suc left) (one_more done left (length (all_tunnels world)) sum) ∙ end_on world left at other who partner (Some next) on;
  tunnels_are = λ left sum.
      sum_more done (length (walk world (Some next) left)) (length (whole_walk world from)) (length (walk world (Some at) (suc left)))
      (now.tunnels_are (suc left) (one_more done left (length (all_tunnels world)) sum)) (length_on world left at other who partner (Some next) on);
}

-- it begins at its slot
pub begins : (world : WorldState) (from : ℕ) → from < slot_count world → StillWalks world from 0 from
begins world from inside = record {
  inside = inside;
  end_is = λ left sum. let all : length (all_tunnels world) ≡ left = omega (arith, sum) in ap (λ (n : ℕ). end_after world (walk world (Some from) n)) all;
  tunnels_are = λ left sum.
      let all : length (all_tunnels world) ≡ left = omega (arith, sum) in
      let same : length (whole_walk world from) ≡ length (walk world (Some from) left) = ap (λ (n : ℕ). length (walk world (Some from) n)) all in
      omega (arith, same);
}

-- how many tunnels are left after the next one
rest_of : (done total : ℕ) → done < total → done + suc (total - done - 1) ≡ total
rest_of done total below = omega arith

-- a walk by its tunnels and its end
abbrev walk_to : ℕ → ℕ → Walked
walk_to tunnels s = record { end = s; tunnels = tunnels }

by_parts : (end : Option ℕ) (tunnels last count : ℕ) → end ≡ Some last → tunnels ≡ count
    → option_map (walk_to tunnels) end ≡ Some (walk_to count last)
by_parts end tunnels last count one two = rw (one, two) refl

no_end : (end : Option ℕ) (tunnels : ℕ) → end ≡ None → option_map (walk_to tunnels) end ≡ None
no_end end tunnels is = rw (is) refl

-- it ends at an end
pub ends : (world : WorldState) (from done at other : ℕ) (goal : Goal) → StillWalks world from done at → done < length (all_tunnels world) → other ≡ far at → goal_of world other ≡ End goal
    → Some (record { end = other; tunnels = done + 1 }) ≡ walk_from world from
ends world from done at other goal now below same is =
    let left : ℕ = length (all_tunnels world) - done - 1 in
    let sum : done + suc left ≡ length (all_tunnels world) = rest_of done (length (all_tunnels world)) below in
    let aims : is_end_goal (goal_of world (far at)) ≡ true = ap (λ (s : ℕ). is_end_goal (goal_of world s)) (sym same) ∙ ap is_end_goal is in
    sym (by_parts (other_end world from) (length (whole_walk world from)) other (done + 1)
    (now.end_is (suc left) sum ∙ (end_here world left (far at) aims ∙ ap Some (sym same)))
    (now.tunnels_are (suc left) sum ∙ ap (λ (o : Option ℕ). done + suc (length (walk world o left))) (end_alone world (far at) aims)))

-- it comes to no end where a partner has no number
pub breaks : (world : WorldState) (from done at other who partner : ℕ) → StillWalks world from done at → done < length (all_tunnels world) → LeadsOn world at other who partner None
    → None ≡ walk_from world from
breaks world from done at other who partner now below on =
    let left : ℕ = length (all_tunnels world) - done - 1 in
    let sum : done + suc left ≡ length (all_tunnels world) = rest_of done (length (all_tunnels world)) below in
    sym (no_end (other_end world from) (length (whole_walk world from)) (now.end_is (suc left) sum ∙ end_on world left at other who partner None on))

-- nor where it has gone over as many tunnels as there are
pub stops : (world : WorldState) (from done at : ℕ) → StillWalks world from done at → done ≡ length (all_tunnels world) → None ≡ walk_from world from
stops world from done at now all = sym (no_end (other_end world from) (length (whole_walk world from)) (now.end_is 0 (omega arith)))

-- ---- the number of tunnels

-- half of the slots
pub half_of : (world : WorldState) (count : ℕ) → count ≡ slot_count world → count / 2 ≡ length (all_tunnels world)
half_of world count all = let two : slot_count world ≡ 2 * length (all_tunnels world) = two_each world.channels 0 in omega (arith, two, all)
