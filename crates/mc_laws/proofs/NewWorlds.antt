-- Worlds as new are sound.
use Rattle.std.proofs.Common.{◌≡◌, ◌<◌, ◌*◌, ◌%◌, ◌+◌, ◌==◌, not, ℕ, zero, suc, Bool, List, [], length, refl, ap, sym, ◌∙◌, subst, arith}
use Rattle.std.proofs.Math.ListN.{get_or, replicate}
use Rattle.std.proofs.lemmas.Grind.{common_steps}
use Rattle.mc_signal.specs.declared.Signal.{Signal}
use Rattle.mc_signal.specs.declared.Tagged.{Tagged}
use Rattle.mc_slot.specs.Moves.{closed_slot}
use Rattle.mc_slot.specs.Tunnel.{TunnelSound}
use Rattle.mc_slot.specs.declared.Slot.{Slot}
use Rattle.mc_box.specs.Boxes.{BoxState, IsNewBox, no_box}
use Rattle.mc_model.specs.Served.{AllServed, LanesServed}
use Rattle.mc_model.specs.Sound.{IsNumbered}
use Rattle.mc_laws.specs.StepLaws.{FirstIsSound}
use Rattle.mc_model.specs.Worlds.{ChannelState, WorldState, TunnelPlace, box_at, far, first_world, for_tunnel, tunnel_of, lane_of, list_to, place, slot_count, slot_of}
use Rattle.mc_box.proofs.NewBoxes.{new_box_sound, new_slot_closed}
use Rattle.mc_laws.proofs.ActedWorlds.{far_inside}
use Rattle.mc_laws.proofs.LanesKept.{far_tunnel}
use Rattle.mc_laws.proofs.Numbers.{far_side}

-- ---- nothing is under way

none_under_way : (n lane : ℕ) → get_or (replicate n (let nothing : List Tagged = [] in nothing)) lane [] ≡ []
none_under_way zero lane = refl
none_under_way (suc n) zero = refl
none_under_way (suc n) (suc lane) = none_under_way n lane

first_is_served : (boxes : List BoxState) (channels : List ChannelState) → LanesServed (first_world boxes channels)
first_is_served boxes channels lane =
    subst (λ (l : List Tagged). AllServed (first_world boxes channels) lane l) (sym (none_under_way (2 * length channels) lane)) tt

-- ---- a world as new

-- two closed slots of one medium, on the two sides of a tunnel
pub closed_tunnel : (a b : Slot) → a ≡ closed_slot a.medium a.initiator → b ≡ closed_slot b.medium b.initiator → a.medium ≡ b.medium → a.initiator ≡ not b.initiator → TunnelSound a [] b []
closed_tunnel a b one two medium sides = grind (arith)

-- far slots stand on different sides
sides_differ : (s t : ℕ) → s + t ≡ 1 → (t == 0) ≡ not (s == 0)
sides_differ s t one = grind (arith, common_steps)

list_none : (boxes : List BoxState) (channels : List ChannelState) (s : ℕ) → list_to (first_world boxes channels) s ≡ []
list_none boxes channels s = ap (for_tunnel (tunnel_of (first_world boxes channels) s).within) (none_under_way (2 * length channels) (lane_of (first_world boxes channels) s))

first_closed : (boxes : List BoxState) (channels : List ChannelState) (s : ℕ) → ((who : ℕ) → who < length boxes → IsNewBox (get_or boxes who no_box))
    → IsNumbered (first_world boxes channels) → s < slot_count (first_world boxes channels)
    → slot_of (first_world boxes channels) s ≡ closed_slot (slot_of (first_world boxes channels) s).medium (slot_of (first_world boxes channels) s).initiator
first_closed boxes channels s new numbered inside =
    let world : WorldState = first_world boxes channels in
    new_slot_closed (box_at world (place world s).0) (place world s).1 (new (place world s).0 (numbered.placed s inside))

first_tunnel : (boxes : List BoxState) (channels : List ChannelState) (s : ℕ) → ((who : ℕ) → who < length boxes → IsNewBox (get_or boxes who no_box))
    → IsNumbered (first_world boxes channels) → s < slot_count (first_world boxes channels)
    → TunnelSound (slot_of (first_world boxes channels) s) [] (slot_of (first_world boxes channels) (far s)) []
first_tunnel boxes channels s new numbered inside =
    let world : WorldState = first_world boxes channels in
    let away : far s < slot_count world = far_inside world s inside in
    closed_tunnel (slot_of world s) (slot_of world (far s)) (first_closed boxes channels s new numbered inside) (first_closed boxes channels (far s) new numbered away)
    (numbered.media s inside ∙ (ap (λ (j : TunnelPlace). j.medium) (sym (far_tunnel world s)) ∙ sym (numbered.media (far s) away)))
    (numbered.sides s inside ∙ (sides_differ (far s % 2) (s % 2) (far_side s) ∙ ap (λ (b : Bool). not b) (sym (numbered.sides (far s) away))))

pub first_is_sound : FirstIsSound
first_is_sound boxes channels new numbered =
    let world : WorldState = first_world boxes channels in
    record {
      tunnels = λ s inside.
          subst (λ (l : List Signal). TunnelSound (slot_of world s) l (slot_of world (far s)) (list_to world (far s))) (sym (list_none boxes channels s))
          (subst (λ (l : List Signal). TunnelSound (slot_of world s) [] (slot_of world (far s)) l) (sym (list_none boxes channels (far s))) (first_tunnel boxes channels s new numbered inside));
      boxes = λ who below. new_box_sound (get_or boxes who no_box) (new who below);
      numbered = numbered;
      served = first_is_served boxes channels;
    }
