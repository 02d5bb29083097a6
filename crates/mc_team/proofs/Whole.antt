-- A layout of all channels of a network: the places of each box's slots.
use Rattle.std.proofs.Common.{◌≡◌, ◌<◌, ◌≤◌, ◌+◌, ◌*◌, ◌/◌, ◌%◌, inl, inr, ℕ, Some, All, List, [], length, replicate, ap, sym, ◌∙◌, subst, arith}
use Rattle.std.proofs.Math.ListN.{get_or}
use Rattle.std.proofs.lemmas.Bool.{cases_lt}
use Rattle.std.proofs.lemmas.List.{get_or_past, get_or-replicate, length-map, length-replicate}
use Rattle.std.proofs.lemmas.List.Elements.{All-nil}
use Rattle.std.proofs.lemmas.Option.{none-some, same_Some, slice_get_within}
use Rattle.std.specs.List.{slice_get}
use Rattle.std.specs.declared.alloc.Global.{Global}
use Rattle.std.specs.declared.vec.Vec.{Vec}
use Rattle.mc_box.specs.Boxes.{BoxState, no_box}
use Rattle.mc_box.specs.declared.limit.TheConstants.{SLOT_LIMIT}
use Rattle.mc_laws.proofs.Numbers.{by_half, half_in}
use Rattle.mc_laws.proofs.TunnelPlaces.{places_apart, two_each}
use Rattle.mc_team.specs.Layouts.{AreBare, IsLayoutOf, IsLayoutSoFar, IsNewIn, IsNewOut, IsPlacedAt, at_end, inner_lists, of_box}
use Rattle.mc_team.specs.declared.layout.TeamLayout.{TeamLayout}
use Rattle.mc_team.proofs.EndsFew.{ends_few, places_few}
use Rattle.mc_team.proofs.SlotsLonger.{slot_tunnel_low}
use Rattle.mc_model.specs.Sound.{IsNumbered}
use Rattle.mc_model.specs.Worlds.{AreChannels, ChannelState, first_world, lane_of, no_tunnel, place, places_among, slot_count, tunnel_of, tunnels_from}
use Rattle.mc_model.specs.declared.channel.TheConstants.{TUNNEL_LIMIT}
use Rattle.mc_port.specs.declared.ends.InPort.{InPort}
use Rattle.mc_port.specs.declared.ends.OutPort.{OutPort}

-- ---- the slot of a place

-- a place of a box is that of the slot with its local number
pub record IsPlaceOf (boxes : List BoxState) (channels : List ChannelState) (ends : List (List ℕ)) (who local : ℕ) (at : ℕ × ℕ) : Type 0 where
  pub slot : ℕ
  pub inside : slot < slot_count (first_world boxes channels)
  pub is : place (first_world boxes channels) slot ≡ (who, local)
  pub within : at.1 ≡ (tunnel_of (first_world boxes channels) slot).within
  pub lane : at_end ends who at.0 ≡ Some (lane_of (first_world boxes channels) slot)

box_there : (boxes : List BoxState) (places : List (List (ℕ × ℕ))) (who local : ℕ) (at : ℕ × ℕ) → AreBare boxes places → at_end places who local ≡ Some at → who < length boxes
box_there boxes places who local at bare is = elim (cases_lt who (length boxes)) [
  | inl here ↦ here
  | inr past ↦
      let none : of_box places who ≡ [] = get_or_past places who [] (omega (arith, bare.count)) in
      absurd (none-some at (sym (ap (λ (l : List (ℕ × ℕ)). slice_get l local) none) ∙ is))
]

pub place_of : (boxes : List BoxState) (channels : List ChannelState) (ends : List (List ℕ)) (places : List (List (ℕ × ℕ))) (who local : ℕ) (at : ℕ × ℕ) → IsNumbered (first_world boxes channels) → AreBare boxes places
    → ((s : ℕ) → s < slot_count (first_world boxes channels) → IsPlacedAt boxes channels ends places s) → at_end places who local ≡ Some at → IsPlaceOf boxes channels ends who local at
place_of boxes channels ends places who local at numbered bare placed is =
    let here : who < length boxes = box_there boxes places who local at bare is in
    let low : local < length (get_or boxes who no_box).slots = subst (λ (n : ℕ). local < n) (bare.long who) (slice_get_within (of_box places who) local at is) in
    let found = numbered.all who local here low in
    let s : ℕ = found.0 in
    let its : IsPlacedAt boxes channels ends places s = placed s found.1 in
    let has : at_end places who local ≡ Some (its.end, (tunnel_of (first_world boxes channels) s).within) =
    subst (λ (p : ℕ × ℕ). at_end places p.0 p.1 ≡ Some (its.end, (tunnel_of (first_world boxes channels) s).within)) found.2 its.at in
    let same : at ≡ (its.end, (tunnel_of (first_world boxes channels) s).within) = same_Some at (its.end, (tunnel_of (first_world boxes channels) s).within) (sym is ∙ has) in
    record {
      slot = s;
      inside = found.1;
      is = found.2;
      within = ap (λ (p : ℕ × ℕ). p.1) same;
      lane =
          ap (λ (p : ℕ × ℕ). at_end ends who p.0) same
          ∙ subst (λ (p : ℕ × ℕ). at_end ends p.0 its.end ≡ Some (lane_of (first_world boxes channels) s)) found.2 its.lane;
    }

-- ---- different slots have different places

lane_channel : (c d s t : ℕ) → 2 * c + s % 2 ≡ 2 * d + t % 2 → c ≡ d
lane_channel c d s t same = omega arith

lane_side : (c d s t : ℕ) → 2 * c + s % 2 ≡ 2 * d + t % 2 → s % 2 ≡ t % 2
lane_side c d s t same = omega arith

-- a lane and a tunnel tell the slot
one_slot : (channels : List ChannelState) (s t : ℕ) → s < length (places_among channels) → t < length (places_among channels)
    → 2 * (get_or (tunnels_from 0 channels) (s / 2) no_tunnel).channel + s % 2 ≡ 2 * (get_or (tunnels_from 0 channels) (t / 2) no_tunnel).channel + t % 2
    → (get_or (tunnels_from 0 channels) (s / 2) no_tunnel).within ≡ (get_or (tunnels_from 0 channels) (t / 2) no_tunnel).within → s ≡ t
one_slot channels s t one two lane within =
    let n : ℕ = length (tunnels_from 0 channels) in
    let count : length (places_among channels) ≡ 2 * length (tunnels_from 0 channels) = two_each channels 0 in
    by_half s t
    (places_apart channels 0 (s / 2) (t / 2) (half_in s n (subst (λ (m : ℕ). s < m) count one)) (half_in t n (subst (λ (m : ℕ). t < m) count two)) (lane_channel _ _ s t lane) within)
    (lane_side (get_or (tunnels_from 0 channels) (s / 2) no_tunnel).channel (get_or (tunnels_from 0 channels) (t / 2) no_tunnel).channel s t lane)

one_local : (boxes : List BoxState) (channels : List ChannelState) (ends : List (List ℕ)) (who s t : ℕ) (at : ℕ × ℕ) → IsPlaceOf boxes channels ends who s at → IsPlaceOf boxes channels ends who t at → s ≡ t
one_local boxes channels ends who s t at one two =
    let world = first_world boxes channels in
    let lane : lane_of (first_world boxes channels) one.slot ≡ lane_of (first_world boxes channels) two.slot = same_Some (lane_of world one.slot) (lane_of world two.slot) (sym one.lane ∙ two.lane) in
    let same : one.slot ≡ two.slot = one_slot channels one.slot two.slot one.inside two.inside lane (sym one.within ∙ two.within) in
    ap (λ (p : ℕ × ℕ). p.1) (sym one.is ∙ (ap (λ (n : ℕ). place world n) same ∙ two.is))

-- ---- all of it

-- what is known when all channels have joined their boxes
pub record AreAllJoined (boxes : List BoxState) (channels : List ChannelState) (layout : TeamLayout) : Type 0 where
  pub numbered : IsNumbered (first_world boxes channels)
  pub limits : AreChannels channels
  pub small : All (λ (one : BoxState). length one.slots ≤ SLOT_LIMIT) boxes
  pub so_far : IsLayoutSoFar boxes channels layout

few_ends : (boxes : List BoxState) (channels : List ChannelState) (layout : TeamLayout) (who : ℕ) → AreAllJoined boxes channels layout → length (of_box (inner_lists layout.ends.items) who) ≤ SLOT_LIMIT
few_ends boxes channels layout who k =
    let low = ends_few boxes channels layout.lanes.items (inner_lists layout.ends.items) (inner_lists layout.places.items) who k.limits.tunnels k.so_far.lane_count k.so_far.ends k.so_far.places in
    omega (arith, low, places_few boxes (inner_lists layout.places.items) who k.so_far.bare k.small)

pub whole_layout : (boxes : List BoxState) (channels : List ChannelState) (layout : TeamLayout) → AreAllJoined boxes channels layout → IsLayoutOf boxes channels layout
whole_layout boxes channels layout k =
    let ends : List (List ℕ) = inner_lists layout.ends.items in
    let places : List (List (ℕ × ℕ)) = inner_lists layout.places.items in
    let of : (who local : ℕ) (at : ℕ × ℕ) → at_end (inner_lists layout.places.items) who local ≡ Some at → IsPlaceOf boxes channels (inner_lists layout.ends.items) who local at =
    λ who local at is. place_of boxes channels ends places who local at k.numbered k.so_far.bare k.so_far.places is in
    record {
      whole = k.so_far;
      few = λ who. few_ends boxes channels layout who k;
      places = λ who. record {
        few = places_few boxes places who k.so_far.bare k.small;
        ends = λ slot at is.
            let inside = slice_get_within (of_box ends who) at.0 _ (of who slot at is).lane in
            omega (arith, inside, few_ends boxes channels layout who k);
        tunnels = λ slot at is.
            let its = of who slot at is in
            subst (λ (n : ℕ). n < TUNNEL_LIMIT) (sym its.within) (slot_tunnel_low channels its.slot k.limits.tunnels its.inside);
        apart = λ s t at one two. one_local boxes channels ends who s t at (of who s at one) (of who t at two);
      };
      at_ends = λ who slot at is. slice_get_within (of_box ends who) at.0 _ (of who slot at is).lane;
    }

-- ---- none of it

no_list : {A : Type 0} → (lists : List (List A)) (n who : ℕ) → lists ≡ replicate n [] → of_box lists who ≡ []
no_list {A} lists n who is =
    let none : of_box {A = A} (replicate n []) who ≡ [] = elim (cases_lt who n) [
      | inl here ↦ get_or-replicate n who [] [] here
      | inr past ↦ get_or_past (replicate n []) who [] (omega (arith, length-replicate {A = List A} n []))
    ] in
    ap (λ (l : List (List A)). of_box l who) is ∙ none

counted : {A : Type 0} → (lists : List (Vec A Global)) (n : ℕ) → inner_lists lists ≡ replicate n [] → length lists ≡ n
counted {A} lists n is = sym (length-map lists (λ (v : Vec A Global). v.items)) ∙ (ap length is ∙ length-replicate n [])

-- boxes that nothing joins
pub none_joined : (boxes : List BoxState) (layout : TeamLayout) (n : ℕ) → n ≡ length boxes → layout.lanes.items ≡ [] → inner_lists layout.ends.items ≡ replicate n [] → AreBare boxes (inner_lists layout.places.items)
    → inner_lists layout.ins.items ≡ replicate n [] → inner_lists layout.outs.items ≡ replicate n [] → IsLayoutSoFar boxes [] layout
none_joined boxes layout n count lanes ends bare ins outs = record {
  lane_count = ap length lanes;
  joins = λ k channel is. absurd (none-some channel is);
  ends = record {
    taking = λ lane below. absurd (none_below lane below);
    giving = λ lane below. absurd (none_below lane below);
    there = λ who end lane is. absurd (no_end who end lane is);
    taker = λ who end lane is. absurd (no_end who end lane is);
    giver = λ who end lane is. absurd (no_end who end lane is);
  };
  box_count = counted layout.ends.items n ends ∙ count;
  bare = bare;
  places = λ s below. absurd (omega arith);
  in_boxes = counted layout.ins.items n ins ∙ count;
  out_boxes = counted layout.outs.items n outs ∙ count;
  in_count = λ who. ap length (no_list (inner_lists layout.ins.items) n who ins) ∙ ap length (sym (no_list (inner_lists layout.ends.items) n who ends));
  out_count = λ who. ap length (no_list (inner_lists layout.outs.items) n who outs) ∙ ap length (sym (no_list (inner_lists layout.ends.items) n who ends));
  rings = λ lane below. absurd (none_below lane below);
  new_ins = λ who. subst (λ (l : List InPort). All IsNewIn l) (sym (no_list (inner_lists layout.ins.items) n who ins)) (All-nil IsNewIn);
  new_outs = λ who. subst (λ (l : List OutPort). All IsNewOut l) (sym (no_list (inner_lists layout.outs.items) n who outs)) (All-nil IsNewOut);
}
  where
    none_below : (lane : ℕ) → lane < length layout.lanes.items → ⊥
    none_below lane below = omega (arith, ap length lanes)

    no_end : (who end lane : ℕ) → at_end (inner_lists layout.ends.items) who end ≡ Some lane → ⊥
    no_end who end lane is = none-some lane (sym (ap (λ (l : List ℕ). slice_get l end) (no_list (inner_lists layout.ends.items) n who ends)) ∙ is)
