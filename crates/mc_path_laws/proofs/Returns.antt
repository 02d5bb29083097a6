-- The walk back from the end that a walk comes to: it goes over the same tunnels, the other way round, and comes to the slot that the walk began from.
use Rattle.std.proofs.Common.{◌≡◌, ◌<◌, ◌≤◌, ◌+◌, ◌-◌, ◌++◌, inl, inr, ℕ, zero, suc, true, Option, Some, IsTrue, List, [], ◌∷◌, length, map, reverse, append_assoc, ap, sym, ◌∙◌, subst, arith}
use Rattle.std.proofs.lemmas.Grind.{flat_map-append}
use Rattle.std.proofs.lemmas.List.{append-nil, reverse-append}
use Rattle.mc_slot.specs.EndTurn.{is_end_goal}
use Rattle.mc_model.specs.Paths.{both_sides, end_after, next_slot, other_end, partner_of, slots_on, walk, whole_walk}
use Rattle.mc_model.specs.Sound.{IsSound}
use Rattle.mc_model.specs.Worlds.{WorldState, far, goal_of, all_tunnels, slot_count}
use Rattle.mc_laws.proofs.ActedWorlds.{far_inside}
use Rattle.mc_laws.proofs.Numbers.{far_back}
use Rattle.mc_laws.proofs.Partners.{next_is}
use Rattle.mc_laws.proofs.Walks.{end_alone, end_beyond, end_here, end_linked, end_parts}
use Rattle.mc_path_laws.proofs.Sides.{sides_turned, turned}

-- a tunnel before the others is, the other way round, after them
turn_first : (slots beyond : List ℕ) (s : ℕ) → turned slots ++ far s ∷ beyond ≡ turned (s ∷ slots) ++ beyond
turn_first slots beyond s = sym (append_assoc (turned slots) (far s ∷ []) beyond) ∙ ap (λ (l : List ℕ). l ++ beyond) (sym (reverse-append (far s ∷ []) (map far slots)))

-- ---- the walk back

-- the walk from t comes, after some tunnels, to s from the far side of that one's tunnel
pub record Returns (world : WorldState) (most s t : ℕ) : Type 0 where
  pub steps : ℕ
  pub few : steps ≤ most
  pub back : (left total : ℕ) → steps + left ≡ total → end_after world (walk world (Some t) total) ≡ end_beyond world left s

-- over one tunnel
pub back_once : (world : WorldState) (most s : ℕ) → Returns world (suc most) s (far s)
back_once world most s = record {
  steps = 1;
  few = omega arith;
  back = λ left total sum.
      let more : suc left ≡ total = omega arith in
      subst (λ (n : ℕ). end_after world (walk world (Some (far s)) n) ≡ end_beyond world left s) more (ap (end_beyond world left) (far_back s));
}

one_more : (steps left total : ℕ) → steps + 1 + left ≡ total → steps + suc left ≡ total
one_more steps left total sum = omega arith

-- and over one more, from a slot that is linked with the far slot
pub back_on : (world : WorldState) (most s next t : ℕ) → partner_of world next ≡ Some (far s) → Returns world most next t → Returns world (suc most) s t
back_on world most s next t link more = record {
  steps = more.steps + 1;
  few = omega (arith, more.few);
  back = λ left total sum.
      more.back (suc left) total (one_more more.steps left total sum) ∙ (end_linked world (suc left) next (far s) link ∙ ap (end_beyond world left) (far_back s));
}

-- what a walk from s within so many tunnels comes to: an end from which a walk goes over the same tunnels, the other way round, and then on beyond s
pub record WalkBack (world : WorldState) (most s t : ℕ) : Type 0 where
  pub inside : t < slot_count world
  pub aims : is_end_goal (goal_of world t) ≡ true
  pub returns : Returns world most s t
  pub slots : (left total : ℕ) → returns.steps + left ≡ total → walk world (Some t) total ≡ turned (walk world (Some s) most) ++ walk world (partner_of world s) left

-- a tunnel to an end
ends_over : (world : WorldState) (most s t : ℕ) → s < slot_count world → is_end_goal (goal_of world (far s)) ≡ true → far s ≡ t → WalkBack world (suc most) s t
unfolding back_once
ends_over world most s t inside aims same = subst (λ (n : ℕ). WalkBack world (suc most) s n) same (record {
  inside = far_inside world s inside;
  aims = aims;
  returns = back_once world most s;
  slots = λ left total sum.
      let more : suc left ≡ total = omega arith in
      subst (λ (n : ℕ). walk world (Some (far s)) n ≡ turned (walk world (Some s) (suc most)) ++ walk world (partner_of world s) left) more
      (ap (λ (n : ℕ). far s ∷ walk world (partner_of world n) left) (far_back s)
      ∙ ap (λ (o : Option ℕ). turned (s ∷ walk world o most) ++ walk world (partner_of world s) left) (sym (end_alone world (far s) aims)));
})

-- a tunnel to a linked slot, and the walk from its partner
ends_beyond : (world : WorldState) (most s next t : ℕ) → next_slot world s ≡ Some next → partner_of world next ≡ Some (far s) → WalkBack world most next t → WalkBack world (suc most) s t
unfolding back_on
ends_beyond world most s next t is link more = record {
  inside = more.inside;
  aims = more.aims;
  returns = back_on world most s next t link more.returns;
  slots = λ left total sum.
      more.slots (suc left) total (one_more more.returns.steps left total sum)
      ∙ (ap (λ (o : Option ℕ). turned (walk world (Some next) most) ++ walk world o (suc left)) link
      ∙ (ap (λ (n : ℕ). turned (walk world (Some next) most) ++ far s ∷ walk world (partner_of world n) left) (far_back s)
      ∙ (turn_first (walk world (Some next) most) (walk world (partner_of world s) left) s
      ∙ ap (λ (o : Option ℕ). turned (s ∷ walk world o most) ++ walk world (partner_of world s) left) (sym is))));
}

-- from whichever slot
pub walk_back : (most : ℕ) (world : WorldState) (s t : ℕ) → IsSound world → s < slot_count world → end_after world (walk world (Some s) most) ≡ Some t → WalkBack world most s t
walk_back zero world s t sound inside comes = absurd (cc)
walk_back (suc most) world s t sound inside comes = elim (end_parts world most (far s) t comes) [
  | inl here ↦ ends_over world most s t inside here.0 here.1
  | inr on ↦
      let next = next_is world s on.0 sound inside on.1 in
      ends_beyond world most s on.0 t on.1 next.back (walk_back most world on.0 t sound next.inside on.2)
]

-- ---- the walk back to an end

-- how many tunnels are left after some of them
left_of : (steps total : ℕ) → steps ≤ total → (left : ℕ) × (steps + left ≡ total)
left_of steps total few = (total - steps, omega arith)

-- a slot from which the walk comes back to an end has that end
pub comes_back : (world : WorldState) (s t : ℕ) → IsTrue (is_end_goal (goal_of world s)) → Returns world (length (all_tunnels world)) s t → other_end world t ≡ Some s
comes_back world s t aims returns =
    let rest = left_of returns.steps (length (all_tunnels world)) returns.few in
    returns.back rest.0 (length (all_tunnels world)) rest.1 ∙ end_here world rest.0 s aims

-- so ends come to each other
pub end_back : (world : WorldState) (s t : ℕ) → IsSound world → s < slot_count world → IsTrue (is_end_goal (goal_of world s)) → other_end world s ≡ Some t → other_end world t ≡ Some s
end_back world s t sound inside aims comes = comes_back world s t aims (walk_back (length (all_tunnels world)) world s t sound inside comes).returns

-- a walk back goes over the slots that the walk went over, the other way round, and then on beyond its first
pub slots_beyond : (world : WorldState) (s t : ℕ) → IsSound world → s < slot_count world → other_end world s ≡ Some t
    → (left : ℕ) × (both_sides (whole_walk world t) ≡ reverse (both_sides (whole_walk world s)) ++ both_sides (walk world (partner_of world s) left))
slots_beyond world s t sound inside comes =
    let more = walk_back (length (all_tunnels world)) world s t sound inside comes in
    let rest = left_of more.returns.steps (length (all_tunnels world)) more.returns.few in (
      rest.0,
      ap both_sides (more.slots rest.0 (length (all_tunnels world)) rest.1)
          ∙ (flat_map-append (λ (t : ℕ). t ∷ far t ∷ []) (turned (whole_walk world s)) (walk world (partner_of world s) rest.0)
          ∙ ap (λ (l : List ℕ). l ++ both_sides (walk world (partner_of world s) rest.0)) (sides_turned (whole_walk world s))),
    )

-- from one end to the other a path has the same slots, the other way round
pub slots_back : (world : WorldState) (s t : ℕ) → IsSound world → s < slot_count world → IsTrue (is_end_goal (goal_of world s)) → other_end world s ≡ Some t
    → slots_on world (record { low = t; high = s }) ≡ reverse (slots_on world (record { low = s; high = t }))
slots_back world s t sound inside aims comes =
    let beyond = slots_beyond world s t sound inside comes in
    beyond.1
    ∙ (ap (λ (o : Option ℕ). reverse (both_sides (whole_walk world s)) ++ both_sides (walk world o beyond.0)) (end_alone world s aims)
    ∙ append-nil (reverse (both_sides (whole_walk world s))))
