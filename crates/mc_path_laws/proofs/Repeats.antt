-- A path goes over no slot twice: a walk that did would go round a ring, or back over a tunnel.
use Rattle.std.proofs.Common.{◌≡◌, ◌≢◌, ◌<◌, ◌≤◌, ◌+◌, ◌-◌, ◌*◌, ◌/◌, ◌%◌, ◌⊎◌, inl, inr, ℕ, IsTrue, Some, None, List, length, get_or, ap, sym, ◌∙◌, subst, arith}
use Rattle.std.proofs.lemmas.Bool.{cases_eq}
use Rattle.mc_slot.specs.EndTurn.{is_end_goal}
use Rattle.mc_model.specs.Paths.{both_sides, path_from, slot_after, slots_on, walk, whole_walk}
use Rattle.mc_model.specs.Rings.{IsOnRing}
use Rattle.mc_model.specs.Sound.{IsSound}
use Rattle.mc_model.specs.Worlds.{WorldState, far, goal_of, all_tunnels, places, slot_count}
use Rattle.mc_laws.proofs.Numbers.{far_back}
use Rattle.mc_laws.proofs.RingChains.{after_inside, after_sum, no_way_back}
use Rattle.mc_laws.proofs.RingWalks.{end_is_met, ring_before, rings_meet_no_end}
use Rattle.mc_laws.proofs.Walks.{walk_at}
use Rattle.mc_path_laws.specs.PathLaws.{HasNoRepeats, PathsPassOnce}
use Rattle.mc_path_laws.proofs.Ends.{parts_of}
use Rattle.mc_path_laws.proofs.Quiet.{each_from}
use Rattle.mc_path_laws.proofs.Sides.{far_at, length_sides, near_at}

-- ---- none of them twice

-- one tunnel of a chain and one further on have no slot in common, where the chain begins at an end
apart : (world : WorldState) (s a more near later : ℕ) → IsSound world → s < slot_count world → IsTrue (is_end_goal (goal_of world s)) → 0 < more → slot_after world a s ≡ Some near → slot_after world (a + more) s ≡ Some later → near ≢ later
apart world s a more near later sound inside end some here there same =
    let on : slot_after world more near ≡ Some near = sym (after_sum world a more s near here) ∙ (there ∙ ap Some (sym same)) in
    let ring : IsOnRing world s = ring_before world s near a sound inside here (record { count = more; some = some; back = on }) in
    let met = end_is_met world s sound inside end in
    let clash : Some met.0 ≡ None = sym met.1 ∙ (rings_meet_no_end world s sound inside).1 ring in
    cc

no_way : (world : WorldState) (s a more near later : ℕ) → IsSound world → s < slot_count world → slot_after world a s ≡ Some near → slot_after world (a + more) s ≡ Some later → near ≢ far later
no_way world s a more near later sound inside here there =
    no_way_back world more near later sound (after_inside world a s near sound inside here) (sym (after_sum world a more s near here) ∙ there)

-- ---- by the places in the list

-- what stands at a place: one of the two slots of a tunnel of the chain
record StandsAt (world : WorldState) (s i : ℕ) (slots : List ℕ) : Type 0 where
  tunnel : ℕ
  near : ℕ
  is : slot_after world tunnel s ≡ Some near
  side : ((i ≡ 2 * tunnel) × (get_or slots i 0 ≡ near)) ⊎ ((i ≡ 2 * tunnel + 1) × (get_or slots i 0 ≡ far near))

stands_at : (world : WorldState) (most s i : ℕ) → i < length (both_sides (walk world (Some s) most)) → StandsAt world s i (both_sides (walk world (Some s) most))
stands_at world most s i inside =
    let slots : List ℕ = walk world (Some s) most in
    let within : i / 2 < length (walk world (Some s) most) = omega (arith, inside, length_sides (walk world (Some s) most)) in
    record {
      tunnel = i / 2;
      near = get_or (walk world (Some s) most) (i / 2) 0;
      is = walk_at most world s (i / 2) within;
      side = elim (cases_eq (i % 2) 0) [
        | inl even ↦ let here : i ≡ 2 * (i / 2) = omega (arith, even) in inl (here, ap (λ (n : ℕ). get_or (both_sides slots) n 0) here ∙ near_at slots (i / 2))
        | inr odd ↦ let here : i ≡ 2 * (i / 2) + 1 = omega (arith, odd) in inr (here, ap (λ (n : ℕ). get_or (both_sides slots) n 0) here ∙ far_at slots (i / 2) within)
      ];
    }

-- the chain goes on from the one tunnel to the other
on_to : (world : WorldState) (s a c later : ℕ) → a ≤ c → slot_after world c s ≡ Some later → slot_after world (a + (c - a)) s ≡ Some later
on_to world s a c later within there = let sum : a + (c - a) ≡ c = omega (arith, within) in ap (λ (n : ℕ). slot_after world n s) sum ∙ there

-- two places have different slots
differ : (world : WorldState) (s i j : ℕ) (slots : List ℕ) → IsSound world → s < slot_count world → IsTrue (is_end_goal (goal_of world s)) → i < j → StandsAt world s i slots → StandsAt world s j slots
    → get_or slots i 0 ≢ get_or slots j 0
differ world s i j slots sound inside end before one two same = elim one.side [
  | inl here ↦ elim two.side [
    | inl there ↦
        let lower : one.tunnel < two.tunnel = omega (arith, before, here.0, there.0) in
        apart world s one.tunnel (two.tunnel - one.tunnel) one.near two.near sound inside end (omega (arith, lower)) one.is (on_to world s one.tunnel two.tunnel two.near (omega (arith, lower)) two.is)
        (sym here.1 ∙ (same ∙ there.1))
    | inr there ↦
        no_way world s one.tunnel (two.tunnel - one.tunnel) one.near two.near sound inside one.is (on_to world s one.tunnel two.tunnel two.near (omega (arith, before, here.0, there.0)) two.is)
        (sym here.1 ∙ (same ∙ there.1))
  ]
  | inr here ↦ elim two.side [
    | inl there ↦
        no_way world s one.tunnel (two.tunnel - one.tunnel) one.near two.near sound inside one.is (on_to world s one.tunnel two.tunnel two.near (omega (arith, before, here.0, there.0)) two.is)
        (sym (far_back one.near) ∙ ap far (sym here.1 ∙ (same ∙ there.1)))
    | inr there ↦
        let lower : one.tunnel < two.tunnel = omega (arith, before, here.0, there.0) in
        apart world s one.tunnel (two.tunnel - one.tunnel) one.near two.near sound inside end (omega (arith, lower)) one.is (on_to world s one.tunnel two.tunnel two.near (omega (arith, lower)) two.is)
        (sym (far_back one.near) ∙ (ap far (sym here.1 ∙ (same ∙ there.1)) ∙ far_back two.near))
  ]
]

pub paths_pass_once : PathsPassOnce
paths_pass_once world sound =
    each_from (λ path. HasNoRepeats (slots_on world path)) (path_from world) (places world) 0 (slot_count world) (omega arith)
    (λ s inside path is.
    let parts = parts_of world s path is in
    subst (λ (n : ℕ). HasNoRepeats (both_sides (whole_walk world n))) (sym parts.low_is)
    (λ i j before within.
    differ world s i j (both_sides (whole_walk world s)) sound inside parts.aims before
    (stands_at world (length (all_tunnels world)) s i (omega (arith, before, within))) (stands_at world (length (all_tunnels world)) s j within)))
