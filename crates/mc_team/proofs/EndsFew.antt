-- A box has no more channel ends than slots.
use Rattle.std.proofs.Common.{◌≡◌, ◌<◌, ◌≤◌, ◌+◌, ◌*◌, ◌/◌, ◌%◌, inl, inr, ℕ, Some, All, List, length, ap, sym, ◌∙◌, subst, arith}
use Rattle.std.proofs.Math.ListN.{get_or}
use Rattle.std.proofs.lemmas.Bool.{cases_lt}
use Rattle.std.proofs.lemmas.List.{get_or_past}
use Rattle.std.proofs.lemmas.Option.{get_or_from_slice_get, slice_get-get_or, slice_get_within}
use Rattle.mc_box.specs.Boxes.{BoxState, no_box}
use Rattle.mc_box.specs.declared.limit.TheConstants.{SLOT_LIMIT}
use Rattle.mc_team.specs.Layouts.{AreBare, AreEnds, IsPlacedAt, at_end, of_box}
use Rattle.mc_team.specs.declared.layout.LaneEnds.{LaneEnds}
use Rattle.mc_team.proofs.Covers.{covers_fit}
use Rattle.mc_team.proofs.SlotsLonger.{HasSlot, lane_has_slot}
use Rattle.mc_model.specs.Worlds.{ChannelState, HasTunnels, first_world, no_tunnel, place, slot_count, tunnel_of, tunnels_from}

lane_half : (lane n : ℕ) → lane < 2 * n → lane / 2 < n
lane_half lane n below = omega arith

lane_side : (lane : ℕ) → lane % 2 < 2
lane_side lane = omega arith

lane_whole : (lane channel side : ℕ) → channel ≡ 0 + lane / 2 → side ≡ lane % 2 → 2 * channel + side ≡ lane
lane_whole lane channel side one two = omega arith

-- each end of a box is that of a slot's place
end_placed : (boxes : List BoxState) (channels : List ChannelState) (lanes : List LaneEnds) (ends : List (List ℕ)) (places : List (List (ℕ × ℕ))) (who end : ℕ)
    → All HasTunnels channels → length lanes ≡ 2 * length channels → AreEnds lanes ends → ((s : ℕ) → s < slot_count (first_world boxes channels) → IsPlacedAt boxes channels ends places s)
    → end < length (of_box ends who) → (l : ℕ) × (l < length (of_box places who)) × ((get_or (of_box places who) l (0, 0)).0 ≡ end)
end_placed boxes channels lanes ends places who end tunnels count are placed inside =
    let lane : ℕ = get_or (of_box ends who) end 0 in
    let is : at_end ends who end ≡ Some (get_or (of_box ends who) end 0) = slice_get-get_or (of_box ends who) end 0 inside in
    let low : lane < 2 * length channels = subst (λ (n : ℕ). lane < n) count (are.there who end lane is) in
    let slot : HasSlot channels 0 (lane / 2) (lane % 2) = lane_has_slot channels 0 (lane / 2) (lane % 2) (lane_half lane (length channels) low) (lane_side lane) tunnels in
    let s : ℕ = slot.slot in
    let at : IsPlacedAt boxes channels ends places s = placed s slot.inside in
    let mine : 2 * (get_or (tunnels_from 0 channels) (slot.slot / 2) no_tunnel).channel + slot.slot % 2 ≡ lane = lane_whole lane _ _ slot.channel slot.side_is in
    let its : at_end ends (place (first_world boxes channels) s).0 at.end ≡ Some lane = at.lane ∙ ap (λ (n : ℕ). Some n) mine in
    let taker = are.taker who end lane is in
    let same = are.taker (place (first_world boxes channels) s).0 at.end lane its in
    let box : (place (first_world boxes channels) s).0 ≡ who = sym same.0 ∙ taker.0 in
    let last : at.end ≡ end = sym same.1 ∙ taker.1 in
    let has : at_end places who (place (first_world boxes channels) s).1 ≡ Some (at.end, (tunnel_of (first_world boxes channels) s).within) =
    subst (λ (n : ℕ). at_end places n (place (first_world boxes channels) s).1 ≡ Some (at.end, (tunnel_of (first_world boxes channels) s).within)) box at.at in (
      (place (first_world boxes channels) s).1,
      slice_get_within (of_box places who) (place (first_world boxes channels) s).1 _ has,
      ap (λ (p : ℕ × ℕ). p.0) (get_or_from_slice_get (of_box places who) (place (first_world boxes channels) s).1 _ (0, 0) has) ∙ last,
    )

pub ends_few : (boxes : List BoxState) (channels : List ChannelState) (lanes : List LaneEnds) (ends : List (List ℕ)) (places : List (List (ℕ × ℕ))) (who : ℕ)
    → All HasTunnels channels → length lanes ≡ 2 * length channels → AreEnds lanes ends → ((s : ℕ) → s < slot_count (first_world boxes channels) → IsPlacedAt boxes channels ends places s)
    → length (of_box ends who) ≤ length (of_box places who)
ends_few boxes channels lanes ends places who tunnels count are placed =
    covers_fit (length (of_box places who)) (length (of_box ends who)) (λ l. (get_or (of_box places who) l (0, 0)).0)
    (λ end inside. end_placed boxes channels lanes ends places who end tunnels count are placed inside)

-- and not too many slots
pub places_few : (boxes : List BoxState) (places : List (List (ℕ × ℕ))) (who : ℕ) → AreBare boxes places → All (λ (one : BoxState). length one.slots ≤ SLOT_LIMIT) boxes → length (of_box places who) ≤ SLOT_LIMIT
places_few boxes places who bare small = elim (cases_lt who (length boxes)) [
  | inl here ↦ omega (arith, bare.long who, small who no_box here)
  | inr past ↦
      let none : length (get_or boxes who no_box).slots ≡ 0 = ap (λ (one : BoxState). length one.slots) (get_or_past boxes who no_box past) in
      omega (arith, bare.long who, none)
]
