-- A walk through a quiet world goes along a chain: tunnels with nothing under way, joined by links at rest.
use Rattle.std.proofs.Common.{◌≡◌, ◌<◌, ℕ, zero, suc, true, Option, Some, None, IsTrue, List, [], ◌∷◌, All, get_or, max, min, refl, ap, sym, subst, inl, inr, arith}
use Rattle.std.specs.List.{list_all}
use Rattle.std.proofs.lemmas.Bool.{cases_lt}
use Rattle.std.proofs.lemmas.Grind.{common_steps}
use Rattle.std.proofs.lemmas.List.Elements.{All-nil, All-cons}
use Rattle.mc_signal.specs.declared.Signal.{Signal}
use Rattle.mc_signal.specs.declared.Tagged.{Tagged}
use Rattle.mc_slot.specs.EndTurn.{is_end_goal, IsAtRest}
use Rattle.mc_slot.specs.Tunnel.{TunnelSound}
use Rattle.mc_slot.specs.declared.Slot.{Slot}
use Rattle.mc_slot.specs.declared.SlotGoal.{SlotGoal}
use Rattle.mc_slot.specs.declared.SlotGoal.TheVariants.{End, Link}
use Rattle.mc_slot.specs.declared.State.{State}
use Rattle.mc_link.specs.LinkTurn.{IsLinkAtRest}
use Rattle.mc_link.proofs.Mirror.{mirror_rests}
use Rattle.mc_box.specs.BoxSound.{RestsAt}
use Rattle.mc_box.specs.Boxes.{BoxState, slot_at}
use Rattle.mc_model.specs.Paths.{both_sides, end_goal, end_goal_of, next_slot, partner_of, walk}
use Rattle.mc_model.specs.Settles.{is_empty, is_quiet}
use Rattle.mc_model.specs.Sound.{IsSound}
use Rattle.mc_model.specs.Worlds.{WorldState, box_at, far, for_tunnel, goal_of, tunnel_of, lane_of, list_to, own_descriptor, own_sender, place, slot_count, slot_of}
use Rattle.mc_laws.proofs.ActedWorlds.{far_inside}
use Rattle.mc_laws.proofs.Partners.{is_partner, linked_with}
use Rattle.mc_laws.proofs.Walks.{end_alone, end_beyond, end_parts}
use Rattle.mc_path_laws.proofs.Chains.{AllAre, Joined, last_slot}

-- ---- a quiet world

-- no lane has anything
lane_none : (lanes : List (List Tagged)) (lane : ℕ) → list_all is_empty lanes ≡ true → get_or lanes lane [] ≡ []
lane_none [] lane quiet = refl
lane_none ([] ∷ lanes) zero quiet = refl
lane_none ((tagged ∷ rest) ∷ lanes) zero quiet = absurd (grind (arith, common_steps))
lane_none (first ∷ lanes) (suc lane) quiet = lane_none lanes lane (grind (arith, common_steps))

-- so nothing comes to a slot
pub list_none : (world : WorldState) (s : ℕ) → IsTrue (is_quiet world) → list_to world s ≡ []
list_none world s quiet = ap (for_tunnel (tunnel_of world s).within) (lane_none world.lanes (lane_of world s) quiet)

-- a tunnel of a quiet world
pub quiet_tunnel : (world : WorldState) (s : ℕ) → IsSound world → IsTrue (is_quiet world) → s < slot_count world → TunnelSound (slot_of world s) [] (slot_of world (far s)) []
quiet_tunnel world s sound quiet inside =
    subst (λ (l : List Signal). TunnelSound (slot_of world s) [] (slot_of world (far s)) l) (list_none world (far s) quiet)
    (subst (λ (l : List Signal). TunnelSound (slot_of world s) l (slot_of world (far s)) (list_to world (far s))) (list_none world s quiet) (sound.tunnels s inside))

-- ---- goals at rest

-- each goal rests
goal_rests : (world : WorldState) (s : ℕ) → IsSound world → s < slot_count world → RestsAt (goal_of world s) (box_at world (place world s).0) (place world s).1
goal_rests world s sound inside = (sound.boxes (place world s).0 (sound.numbered.placed s inside)).rests (place world s).1

-- the goal of an end
pub end_of : (goal : SlotGoal) → is_end_goal goal ≡ true → goal ≡ End (end_goal_of goal)
end_of (End goal) is = refl
end_of (Link partner) is = absurd (cc)

-- so an end rests
pub end_rests : (world : WorldState) (s : ℕ) → IsSound world → s < slot_count world → goal_of world s ≡ End (end_goal world s)
    → IsAtRest (end_goal world s) (slot_of world s) (own_descriptor world s) (own_sender world s)
end_rests world s sound inside aims = subst (λ (g : SlotGoal). RestsAt g (box_at world (place world s).0) (place world s).1) aims (goal_rests world s sound inside)

-- a link rests from either of its slots
link_rests : (box : BoxState) (local partner : ℕ) → RestsAt (Link partner) box local → IsLinkAtRest (slot_at box local) (slot_at box partner)
link_rests box local partner rests = elim (cases_lt local partner) [
  | inl below ↦
      let low : min local partner ≡ local = omega arith in
      let high : max local partner ≡ partner = omega arith in
      subst (λ (k : ℕ). IsLinkAtRest (slot_at box local) (slot_at box k)) high (subst (λ (k : ℕ). IsLinkAtRest (slot_at box k) (slot_at box (max local partner))) low rests)
  | inr above ↦
      let low : min local partner ≡ partner = omega arith in
      let high : max local partner ≡ local = omega arith in
      mirror_rests (slot_at box partner) (slot_at box local)
      (subst (λ (k : ℕ). IsLinkAtRest (slot_at box partner) (slot_at box k)) high (subst (λ (k : ℕ). IsLinkAtRest (slot_at box k) (slot_at box (max local partner))) low rests))
]

-- a slot and its partner, by their numbers
record Linked (world : WorldState) (s next : ℕ) : Type 0 where
  inside : next < slot_count world
  rests : IsLinkAtRest (slot_of world s) (slot_of world next)

-- where a walk goes on, it does at the partner
linked : (world : WorldState) (s next : ℕ) → IsSound world → s < slot_count world → partner_of world s ≡ Some next → Linked world s next
linked world s next sound inside is =
    let link = linked_with world s next (goal_of world s) is in
    let there = is_partner world s link.0 next sound inside link.1 link.2 in
    let rests : IsLinkAtRest (slot_of world s) (slot_at (box_at world (place world s).0) link.0) =
    link_rests (box_at world (place world s).0) (place world s).1 link.0
    (subst (λ (g : SlotGoal). RestsAt g (box_at world (place world s).0) (place world s).1) link.1 (goal_rests world s sound inside)) in
    record {
      inside = there.inside;
      rests = subst (λ (who : ℕ). IsLinkAtRest (slot_of world s) (slot_at (box_at world who) (place world next).1)) (sym there.who)
          (subst (λ (local : ℕ). IsLinkAtRest (slot_of world s) (slot_at (box_at world (place world s).0) local)) (sym there.local) rests);
    }

-- ---- a walk

-- these slots are in a state
abbrev pub AllIn : WorldState → State → List ℕ → Type 0
AllIn world state slots = All (λ s. (slot_of world s).state ≡ state) slots

-- what is beyond a slot on the far side of a tunnel, up to the end to which a walk within so many more tunnels comes
pub record Beyond (world : WorldState) (most s t : ℕ) : Type 0 where
  pub slots : List (Slot × Slot)
  pub joined : Joined (slot_of world s) slots
  pub last : last_slot (slot_of world s) slots ≡ slot_of world t
  pub inside : t < slot_count world
  pub aims : goal_of world t ≡ End (end_goal world t)
  pub all : (state : State) → AllAre state slots → AllIn world state (both_sides (walk world (partner_of world s) most))

-- both slots of a tunnel, and those beyond it
pub both_and : (world : WorldState) (most s : ℕ) (state : State) → (slot_of world s).state ≡ state → (slot_of world (far s)).state ≡ state
    → AllIn world state (both_sides (walk world (next_slot world s) most)) → AllIn world state (both_sides (walk world (Some s) (suc most)))
both_and world most s state here there more =
    All-cons (λ s. (slot_of world s).state ≡ state) s (far s ∷ both_sides (walk world (next_slot world s) most)) here
    (All-cons (λ s. (slot_of world s).state ≡ state) (far s) (both_sides (walk world (next_slot world s) most)) there more)

-- at an end a walk ends, with nothing beyond
ends_here : (world : WorldState) (most s t : ℕ) → s < slot_count world → is_end_goal (goal_of world s) ≡ true → s ≡ t → Beyond world most s t
ends_here world most s t inside aims same =
    subst (λ (n : ℕ). Beyond world most s n) same (record {
      slots = [];
      joined = tt;
      last = refl;
      inside = inside;
      aims = end_of (goal_of world s) aims;
      all = λ state none. subst (λ (o : Option ℕ). AllIn world state (both_sides (walk world o most))) (sym (end_alone world s aims)) (All-nil (λ s. (slot_of world s).state ≡ state));
    })

-- and at a linked slot it goes on over the partner's tunnel
goes_on : (world : WorldState) (most s next t : ℕ) → Linked world s next → partner_of world s ≡ Some next → TunnelSound (slot_of world next) [] (slot_of world (far next)) []
    → Beyond world most (far next) t → Beyond world (suc most) s t
goes_on world most s next t link is tunnel more = record {
  slots = (slot_of world next, slot_of world (far next)) ∷ more.slots;
  joined = (link.rests, tunnel, more.joined);
  last = more.last;
  inside = more.inside;
  aims = more.aims;
  all = λ state are. subst (λ (o : Option ℕ). AllIn world state (both_sides (walk world o (suc most)))) (sym is) (both_and world most next state are.0 are.1 (more.all state are.2));
}

-- what is beyond a slot to which a walk has come, by the tunnels that it may still go over
pub beyond : (most : ℕ) (world : WorldState) (s t : ℕ) → IsSound world → IsTrue (is_quiet world) → s < slot_count world → end_beyond world most s ≡ Some t → Beyond world most s t
beyond zero world s t sound quiet inside comes = elim (end_parts world zero s t comes) [
  | inl here ↦ ends_here world zero s t inside here.0 here.1
  | inr on ↦ let never : None ≡ Some t = on.2 in absurd (cc)
]
beyond (suc most) world s t sound quiet inside comes = elim (end_parts world (suc most) s t comes) [
  | inl here ↦ ends_here world (suc most) s t inside here.0 here.1
  | inr on ↦
      let link = linked world s on.0 sound inside on.1 in
      goes_on world most s on.0 t link on.1 (quiet_tunnel world on.0 sound quiet link.inside) (beyond most world (far on.0) t sound quiet (far_inside world on.0 link.inside) on.2)
]
