-- Each lane of a numbered world leads to a slot, and so to a box of the world.
use Rattle.std.proofs.Common.{◌≡◌, ◌<◌, ◌+◌, ◌*◌, ◌/◌, ◌%◌, ◌++◌, ℕ, zero, suc, List, [], ◌∷◌, length, length-append, get_or, refl, ap, sym, ◌∙◌, subst, arith}
use Rattle.std.specs.List.{AllByRecursion}
use Rattle.std.proofs.lemmas.List.{get_or-append-add}
use Rattle.std.proofs.lemmas.List.Elements.{recursion_from_All}
use Rattle.mc_laws.proofs.ActedWorlds.{far_inside}
use Rattle.mc_laws.proofs.Numbers.{far_back}
use Rattle.mc_laws.proofs.TunnelPlaces.{two_each}
use Rattle.mc_merge.specs.Lanes.{HasBothBoxes, LanesHaveBoxes, leads_from, leads_to}
use Rattle.mc_merge.proofs.LaneEnds.{leads_from_is, leads_is, place_end}
use Rattle.mc_model.specs.Sound.{IsNumbered}
use Rattle.mc_model.specs.Worlds.{ChannelState, HasTunnels, TunnelPlace, WorldState, all_tunnels, far, lane_of, no_tunnel, place, slot_count, tunnel_of, tunnels_from, tunnels_within}
use Rattle.mc_model.specs.declared.channel.Tunnel.{Tunnel}

-- ---- each channel has a tunnel

-- a tunnel of a channel, among all of them
record OfChannel (tunnels : List TunnelPlace) (channel : ℕ) : Type 0 where
  at : ℕ
  inside : at < length tunnels
  is : (get_or tunnels at no_tunnel).channel ≡ channel

first_of : (tunnels : List Tunnel) (channel within : ℕ) (more : List TunnelPlace) → 0 < length tunnels → OfChannel (tunnels_within channel within tunnels ++ more) channel
first_of [] channel within more some = absurd (omega arith)
first_of (tunnel ∷ tunnels) channel within more some = record { at = 0; inside = omega arith; is = refl }

later_of : (front more : List TunnelPlace) (channel : ℕ) → OfChannel more channel → OfChannel (front ++ more) channel
later_of front more channel found =
    let below : found.at < length more = found.inside in
    record {
      at = length front + found.at;
      inside = omega (arith, length-append front more);
      is = ap (λ (t : TunnelPlace). t.channel) (get_or-append-add front more found.at no_tunnel) ∙ found.is;
    }

of_channel : (channels : List ChannelState) (first c : ℕ) → AllByRecursion HasTunnels channels → c < length channels → OfChannel (tunnels_from first channels) (first + c)
of_channel [] first c some below = absurd (omega arith)
of_channel (ends ∷ channels) first zero some below =
    let e : first ≡ first + 0 = omega arith in
    subst (λ (n : ℕ). OfChannel (tunnels_from first (ends ∷ channels)) n) e (first_of ends.tunnels first 0 (tunnels_from (first + 1) channels) some.0.some)
of_channel (ends ∷ channels) first (suc c) some below =
    let e : (first + 1) + c ≡ first + suc c = omega arith in
    subst (λ (n : ℕ). OfChannel (tunnels_from first (ends ∷ channels)) n) e
    (later_of (tunnels_within first 0 ends.tunnels) (tunnels_from (first + 1) channels) ((first + 1) + c) (of_channel channels (first + 1) c some.1 (omega arith)))

-- ---- so each lane leads to a slot

record LedTo (world : WorldState) (lane : ℕ) : Type 0 where
  s : ℕ
  inside : s < slot_count world
  leads : lane_of world s ≡ lane

half_of : (lane n : ℕ) → lane < 2 * n → lane / 2 < n
half_of lane n below = omega arith

-- the number of the slot of a tunnel that stands on a side
side_of_tunnel : (t lane : ℕ) → ((2 * t + lane % 2) / 2 ≡ t) × ((2 * t + lane % 2) % 2 ≡ lane % 2)
side_of_tunnel t lane = (omega arith, omega arith)

side_inside : (t n lane : ℕ) → t < n → 2 * t + lane % 2 < 2 * n
side_inside t n lane below = omega arith

lane_again : (lane channel : ℕ) → channel ≡ 0 + lane / 2 → 2 * channel + lane % 2 ≡ lane
lane_again lane channel is = omega arith

led_to : (world : WorldState) (lane : ℕ) → AllByRecursion HasTunnels world.channels → lane < 2 * length world.channels → LedTo world lane
led_to world lane some below =
    let found = of_channel world.channels 0 (lane / 2) some (half_of lane (length world.channels) below) in
    let parts = side_of_tunnel found.at lane in
    let channel : (tunnel_of world (2 * found.at + lane % 2)).channel ≡ 0 + lane / 2 =
    ap (λ (t : ℕ). (get_or (all_tunnels world) t no_tunnel).channel) parts.0 ∙ found.is in
    record {
      s = 2 * found.at + lane % 2;
      inside = subst (λ (n : ℕ). 2 * found.at + lane % 2 < n) (sym (two_each world.channels 0)) (side_inside found.at (length (all_tunnels world)) lane found.inside);
      leads = ap (λ (side : ℕ). 2 * (tunnel_of world (2 * found.at + lane % 2)).channel + side) parts.1
          ∙ lane_again lane (tunnel_of world (2 * found.at + lane % 2)).channel channel;
    }

-- ---- and so to a box

box_below : (world : WorldState) (s box : ℕ) → IsNumbered world → s < slot_count world → box ≡ (place world s).0 → box < length world.boxes
box_below world s box numbered inside is = subst (λ (n : ℕ). n < length world.boxes) (sym is) (numbered.placed s inside)

both_boxes : (world : WorldState) (lane : ℕ) → IsNumbered world → LedTo world lane → HasBothBoxes world lane
both_boxes world lane numbered led =
    let away : far led.s < slot_count world = far_inside world led.s led.inside in
    let back : lane_of world (far (far led.s)) ≡ lane = ap (lane_of world) (far_back led.s) ∙ led.leads in
    record {
      sender = box_below world (far led.s) (leads_from world lane) numbered away
          (ap (leads_from world) (sym back) ∙ (leads_from_is world (far led.s) ∙ sym (place_end world (far led.s) away)));
      taker = box_below world led.s (leads_to world lane) numbered led.inside
          (ap (leads_to world) (sym led.leads) ∙ (leads_is world led.s ∙ sym (place_end world led.s led.inside)));
    }

pub lanes_have_boxes : LanesHaveBoxes
lanes_have_boxes world lane numbered channels inside =
    both_boxes world lane numbered
    (led_to world lane (recursion_from_All HasTunnels world.channels channels.tunnels) (subst (λ (n : ℕ). lane < n) numbered.lanes inside))
