-- A layout where a channel more joins its two boxes.
use Rattle.std.proofs.Common.{◌≡◌, ◌<◌, ◌≤◌, ◌+◌, ◌*◌, inl, inr, ℕ, Some, All, List, [], ◌∷◌, ◌++◌, length, take, refl, ap, sym, ◌∙◌, subst, arith}
use Rattle.std.proofs.Math.ListN.{get_or}
use Rattle.std.proofs.lemmas.List.{length-map, length-take-le, length_push, take_more}
use Rattle.std.proofs.lemmas.List.Elements.{All-take}
use Rattle.std.proofs.lemmas.Option.{slice_get_within}
use Rattle.std.specs.List.{flat_map, slice_get}
use Rattle.std.specs.declared.alloc.Global.{Global}
use Rattle.std.specs.declared.vec.Vec.{Vec}
use Rattle.mc_box.specs.Boxes.{BoxState}
use Rattle.mc_box.specs.declared.limit.TheConstants.{SLOT_LIMIT}
use Rattle.mc_team.specs.Layouts.{AreSlotsApart, AreEnds, AreSlotsInside, ArePlaced, AreRings, IsEndAdded, IsLayoutSoFar, IsNewIn, IsNewOut, JoinsBoxes, ends_of_lane, inner_lists, of_box}
use Rattle.mc_team.specs.declared.layout.LaneEnds.{LaneEnds}
use Rattle.mc_team.specs.declared.layout.TeamLayout.{TeamLayout}
use Rattle.mc_team.proofs.TeamAdded.{boxes_added, get_either, one_more_at_most, with_added}
use Rattle.mc_team.proofs.EndsFew.{ends_few, places_few}
use Rattle.mc_team.proofs.EndsJoined.{AreJoined, end_stays, ends_joined, from_end_read, joined_ends, joined_lanes, lane_before, lane_first, lane_second, lanes_more, to_end_read, to_initiator, to_other}
use Rattle.mc_team.proofs.RingsJoined.{AreBeside, ArePorts, all_joined, beside_joined, joined_with, rings_joined}
use Rattle.mc_team.proofs.SlotPlaces.{EndsMore, channel_apart, channel_inside, earlier_other, places_joined, still_bare}
use Rattle.mc_model.specs.Sound.{IsNumbered}
use Rattle.mc_model.specs.Worlds.{AreChannels, ChannelState, HasTunnels, first_world, places_among, places_of}
use Rattle.mc_model.specs.declared.channel.Tunnel.{Tunnel}
use Rattle.mc_port.specs.declared.ends.InPort.{InPort}
use Rattle.mc_port.specs.declared.ends.OutPort.{OutPort}

-- ---- before the channel

-- what is known when a channel is to join its boxes
pub record IsToJoin (boxes : List BoxState) (channels : List ChannelState) (n : ℕ) (channel : ChannelState) (layout : TeamLayout) : Type 0 where
  pub numbered : IsNumbered (first_world boxes channels)
  pub within : AreChannels channels
  pub small : All (λ (one : BoxState). length one.slots ≤ SLOT_LIMIT) boxes
  pub below : n < length channels
  pub is : channel ≡ get_or channels n channel
  pub so_far : IsLayoutSoFar boxes (take n channels) layout

pub has_tunnels : (boxes : List BoxState) (channels : List ChannelState) (n : ℕ) (channel : ChannelState) (layout : TeamLayout) → IsToJoin boxes channels n channel layout → HasTunnels channel
has_tunnels boxes channels n channel layout k = subst (λ (c : ChannelState). HasTunnels c) (sym k.is) (k.within.tunnels n channel k.below)

count_so_far : (boxes : List BoxState) (channels : List ChannelState) (n : ℕ) (channel : ChannelState) (layout : TeamLayout) → IsToJoin boxes channels n channel layout → length layout.lanes.items ≡ 2 * n
count_so_far boxes channels n channel layout k = k.so_far.lane_count ∙ ap (λ (m : ℕ). 2 * m) (length-take-le n channels (omega (arith, k.below)))

-- its slots have entries, so its boxes are there
pub is_inside : (boxes : List BoxState) (channels : List ChannelState) (n : ℕ) (channel : ChannelState) (layout : TeamLayout) → IsToJoin boxes channels n channel layout → AreSlotsInside channel (inner_lists layout.places.items)
is_inside boxes channels n channel layout k = channel_inside boxes channels n channel (inner_lists layout.places.items) k.numbered k.so_far.bare k.below k.is

pub is_apart : (boxes : List BoxState) (channels : List ChannelState) (n : ℕ) (channel : ChannelState) (layout : TeamLayout) → IsToJoin boxes channels n channel layout → AreSlotsApart channel
is_apart boxes channels n channel layout k = channel_apart boxes channels n channel k.numbered k.below k.is

first_places : (channel : ChannelState) (tunnels : List Tunnel) (places : List (List (ℕ × ℕ))) → 0 < length tunnels
    → ((i : ℕ) (place : ℕ × ℕ) → slice_get (flat_map (places_of channel) tunnels) i ≡ Some place → (place.0 < length places) × (place.1 < length (of_box places place.0))) → (channel.from < length places) × (channel.to < length places)
first_places channel [] places some inside = absurd (omega arith)
first_places channel (tunnel ∷ tunnels) places some inside = ((inside 0 (channel.from, tunnel.from) refl).0, (inside 1 (channel.to, tunnel.to) refl).0)

-- the boxes are there, and have few ends
pub record HasEndRoom (channel : ChannelState) (layout : TeamLayout) : Type 0 where
  pub from : channel.from < length layout.ends.items
  pub to : channel.to < length layout.ends.items
  pub ins : length layout.ins.items ≡ length layout.ends.items
  pub outs : length layout.outs.items ≡ length layout.ends.items
  pub few : (who : ℕ) → length (of_box (inner_lists layout.ends.items) who) ≤ SLOT_LIMIT

pub has_room : (boxes : List BoxState) (channels : List ChannelState) (n : ℕ) (channel : ChannelState) (layout : TeamLayout) → IsToJoin boxes channels n channel layout → HasEndRoom channel layout
has_room boxes channels n channel layout k =
    let places : List (List (ℕ × ℕ)) = inner_lists layout.places.items in
    let there = first_places channel channel.tunnels places (has_tunnels boxes channels n channel layout k).some (is_inside boxes channels n channel layout k) in
    record {
      from = omega (arith, there.0, k.so_far.bare.count, k.so_far.box_count);
      to = omega (arith, there.1, k.so_far.bare.count, k.so_far.box_count);
      ins = k.so_far.in_boxes ∙ sym k.so_far.box_count;
      outs = k.so_far.out_boxes ∙ sym k.so_far.box_count;
      few = λ who.
          let low = ends_few boxes (take n channels) layout.lanes.items (inner_lists layout.ends.items) places who (All-take HasTunnels n channels k.within.tunnels) k.so_far.lane_count k.so_far.ends k.so_far.places in
          omega (arith, low, places_few boxes places who k.so_far.bare k.small);
    }

-- ---- after it

-- what the channel changed
pub record HasJoined (old new : TeamLayout) (n : ℕ) (channel : ChannelState) (from_end to_end : ℕ) (as_initiator as_other : InPort) (for_initiator for_other : OutPort) : Type 0 where
  pub ends : inner_lists new.ends.items ≡ joined_ends (inner_lists old.ends.items) n channel.from channel.to
  pub ins : inner_lists new.ins.items ≡ joined_with (inner_lists old.ins.items) channel.from channel.to as_initiator as_other
  pub outs : inner_lists new.outs.items ≡ joined_with (inner_lists old.outs.items) channel.from channel.to for_other for_initiator
  pub lanes : new.lanes.items ≡ joined_lanes old.lanes.items channel.from channel.to from_end to_end
  pub places : ArePlaced channel from_end to_end (inner_lists old.places.items) (inner_lists new.places.items)
  pub from_is : from_end ≡ length (of_box (inner_lists old.ends.items) channel.from)
  pub to_is : to_end ≡ length (of_box (with_added (inner_lists old.ends.items) channel.from (2 * n)) channel.to)
  pub ports : ArePorts as_initiator as_other for_initiator for_other
  pub new_initiator : IsNewIn as_initiator
  pub new_other : IsNewIn as_other
  pub out_initiator : IsNewOut for_initiator
  pub out_other : IsNewOut for_other

inner_count : {A : Type 0} → (lists : List (Vec A Global)) → length (inner_lists lists) ≡ length lists
inner_count {A} lists = length-map lists (λ (v : Vec A Global). v.items)

even_odd : (lanes : List LaneEnds) (channels : List ChannelState) (channel : ChannelState) (from_end to_end k : ℕ) (one : ChannelState) → length lanes ≡ 2 * length channels
    → ((k : ℕ) (one : ChannelState) → slice_get channels k ≡ Some one → JoinsBoxes one (ends_of_lane lanes (2 * k)) (ends_of_lane lanes (2 * k + 1)))
    → slice_get (channels ++ channel ∷ []) k ≡ Some one
    → JoinsBoxes one (ends_of_lane (joined_lanes lanes channel.from channel.to from_end to_end) (2 * k)) (ends_of_lane (joined_lanes lanes channel.from channel.to from_end to_end) (2 * k + 1))
even_odd lanes channels channel from_end to_end k one count old is =
    let first : LaneEnds = to_initiator channel.from channel.to from_end to_end in
    let second : LaneEnds = to_other channel.from channel.to from_end to_end in
    elim (get_either channels channel k one is) [
      | inl there ↦
          let low : k < length channels = slice_get_within channels k one there in
          let before = old k one there in
          let here = lane_before lanes first second (2 * k) (omega (arith, low, count)) in
          let next = lane_before lanes first second (2 * k + 1) (omega (arith, low, count)) in
          record {
            to = ap (λ (e : LaneEnds). e.to) here ∙ before.to;
            from = ap (λ (e : LaneEnds). e.from) here ∙ before.from;
            far_to = ap (λ (e : LaneEnds). e.to) next ∙ before.far_to;
            far_from = ap (λ (e : LaneEnds). e.from) next ∙ before.far_from;
          }
      | inr new ↦
          let here = lane_first lanes first second (2 * k) (omega (arith, new.0, count)) in
          let next = lane_second lanes first second (2 * k + 1) (omega (arith, new.0, count)) in
          record {
            to = ap (λ (e : LaneEnds). e.to) here ∙ ap (λ (c : ChannelState). c.from) new.1;
            from = ap (λ (e : LaneEnds). e.from) here ∙ ap (λ (c : ChannelState). c.to) new.1;
            far_to = ap (λ (e : LaneEnds). e.to) next ∙ ap (λ (c : ChannelState). c.to) new.1;
            far_from = ap (λ (e : LaneEnds). e.from) next ∙ ap (λ (c : ChannelState). c.from) new.1;
          }
    ]

-- so it is the layout with the channel
one_joined : (boxes : List BoxState) (channels : List ChannelState) (n : ℕ) (channel : ChannelState) (old new : TeamLayout) (from_end to_end : ℕ) (as_initiator as_other : InPort) (for_initiator for_other : OutPort)
    → IsToJoin boxes channels n channel old → HasJoined old new n channel from_end to_end as_initiator as_other for_initiator for_other → IsLayoutSoFar boxes (take n channels ++ channel ∷ []) new
one_joined boxes channels n channel old new from_end to_end as_initiator as_other for_initiator for_other k has =
    let from : ℕ = channel.from in
    let to : ℕ = channel.to in
    let before : List ChannelState = take n channels in
    let lanes : List LaneEnds = old.lanes.items in
    let ends : List (List ℕ) = inner_lists old.ends.items in
    let ins : List (List InPort) = inner_lists old.ins.items in
    let outs : List (List OutPort) = inner_lists old.outs.items in
    let room = has_room boxes channels n channel old k in
    let count : length (take n channels) ≡ n = length-take-le n channels (omega (arith, k.below)) in
    let lane_count : length old.lanes.items ≡ 2 * n = count_so_far boxes channels n channel old k in
    let from_there : channel.from < length (inner_lists old.ends.items) = omega (arith, room.from, inner_count old.ends.items) in
    let to_there : channel.to < length (inner_lists old.ends.items) = omega (arith, room.to, inner_count old.ends.items) in
    let joined : AreJoined old.lanes.items (inner_lists old.ends.items) n channel.from channel.to from_end to_end = record { count = lane_count; from_there = from_there; to_there = to_there; from_is = has.from_is; to_is = has.to_is } in
    let in_beside : AreBeside InPort (inner_lists old.ins.items) (inner_lists old.ends.items) = record { boxes = inner_count old.ins.items ∙ (room.ins ∙ sym (inner_count old.ends.items)); counts = k.so_far.in_count } in
    let out_beside : AreBeside OutPort (inner_lists old.outs.items) (inner_lists old.ends.items) = record { boxes = inner_count old.outs.items ∙ (room.outs ∙ sym (inner_count old.ends.items)); counts = k.so_far.out_count } in
    let in_now = beside_joined ins ends n from to as_initiator as_other from_there to_there in_beside in
    let out_now = beside_joined outs ends n from to for_other for_initiator from_there to_there out_beside in
    let more : EndsMore (length (take n channels)) channel from_end to_end (inner_lists old.ends.items) (inner_lists new.ends.items) =
    subst (λ (m : ℕ). EndsMore m channel from_end to_end ends (inner_lists new.ends.items)) (sym count)
    (subst (λ (l : List (List ℕ)). EndsMore n channel from_end to_end ends l) (sym has.ends)
    (record {
      stays = λ who end lane is. end_stays lanes ends n from to from_end to_end who end lane joined is;
      from = from_end_read lanes ends n from to from_end to_end joined;
      to = to_end_read lanes ends n from to from_end to_end joined;
    })) in
    let ends_count : length new.ends.items ≡ length old.ends.items =
    sym (inner_count new.ends.items) ∙ (ap (λ (l : List (List ℕ)). length l) has.ends ∙ (boxes_added (with_added ends from (2 * n)) to (2 * n + 1) ∙ (boxes_added ends from (2 * n) ∙ inner_count old.ends.items))) in
    let ins_count : length new.ins.items ≡ length old.ins.items =
    sym (inner_count new.ins.items) ∙ (ap (λ (l : List (List InPort)). length l) has.ins ∙ (boxes_added (with_added ins from as_initiator) to as_other ∙ (boxes_added ins from as_initiator ∙ inner_count old.ins.items))) in
    let outs_count : length new.outs.items ≡ length old.outs.items =
    sym (inner_count new.outs.items) ∙ (ap (λ (l : List (List OutPort)). length l) has.outs ∙ (boxes_added (with_added outs from for_other) to for_initiator ∙ (boxes_added outs from for_other ∙ inner_count old.outs.items))) in
    record {
      lane_count =
          ap (λ (l : List LaneEnds). length l) has.lanes
          ∙ (lanes_more lanes (to_initiator from to from_end to_end) (to_other from to from_end to_end) ∙ omega (arith, k.so_far.lane_count, length_push before channel));
      joins =
          subst (λ (l : List LaneEnds). (k : ℕ) (one : ChannelState) → slice_get (before ++ channel ∷ []) k ≡ Some one → JoinsBoxes one (ends_of_lane l (2 * k)) (ends_of_lane l (2 * k + 1))) (sym has.lanes)
          (λ at one is. even_odd lanes before channel from_end to_end at one k.so_far.lane_count k.so_far.joins is);
      ends =
          subst (λ (l : List LaneEnds). AreEnds l (inner_lists new.ends.items)) (sym has.lanes)
          (subst (λ (l : List (List ℕ)). AreEnds (joined_lanes lanes from to from_end to_end) l) (sym has.ends) (ends_joined lanes ends n from to from_end to_end joined k.so_far.ends));
      box_count = ends_count ∙ k.so_far.box_count;
      bare = still_bare boxes channel from_end to_end (inner_lists old.places.items) (inner_lists new.places.items) has.places k.so_far.bare;
      places = places_joined boxes before channel from_end to_end ends (inner_lists new.ends.items) (inner_lists old.places.items) (inner_lists new.places.items) more has.places
          (λ s below. earlier_other boxes channels n channel s (get_or (places_among before) s (0, 0)) k.numbered k.below k.is below refl) k.so_far.places;
      in_boxes = ins_count ∙ k.so_far.in_boxes;
      out_boxes = outs_count ∙ k.so_far.out_boxes;
      in_count = λ who. ap (λ (l : List (List InPort)). length (of_box l who)) has.ins ∙ (in_now.counts who ∙ ap (λ (l : List (List ℕ)). length (of_box l who)) (sym has.ends));
      out_count = λ who. ap (λ (l : List (List OutPort)). length (of_box l who)) has.outs ∙ (out_now.counts who ∙ ap (λ (l : List (List ℕ)). length (of_box l who)) (sym has.ends));
      rings =
          subst (λ (l : List LaneEnds). AreRings l (inner_lists new.ins.items) (inner_lists new.outs.items)) (sym has.lanes)
          (subst (λ (l : List (List InPort)). AreRings (joined_lanes lanes from to from_end to_end) l (inner_lists new.outs.items)) (sym has.ins)
          (subst (λ (l : List (List OutPort)). AreRings (joined_lanes lanes from to from_end to_end) (joined_with ins from to as_initiator as_other) l) (sym has.outs)
          (rings_joined lanes ends ins outs n from to from_end to_end as_initiator as_other for_initiator for_other joined k.so_far.ends in_beside out_beside has.ports k.so_far.rings)));
      new_ins = λ who.
          subst (λ (l : List (List InPort)). All IsNewIn (of_box l who)) (sym has.ins)
          (all_joined IsNewIn ins ends from to as_initiator as_other from_there to_there in_beside has.new_initiator has.new_other k.so_far.new_ins who);
      new_outs = λ who.
          subst (λ (l : List (List OutPort)). All IsNewOut (of_box l who)) (sym has.outs)
          (all_joined IsNewOut outs ends from to for_other for_initiator from_there to_there out_beside has.out_other has.out_initiator k.so_far.new_outs who);
    }

pub layout_joined : (boxes : List BoxState) (channels : List ChannelState) (n : ℕ) (channel : ChannelState) (old new : TeamLayout) (from_end to_end : ℕ) (as_initiator as_other : InPort) (for_initiator for_other : OutPort)
    → IsToJoin boxes channels n channel old → HasJoined old new n channel from_end to_end as_initiator as_other for_initiator for_other → IsLayoutSoFar boxes (take (n + 1) channels) new
layout_joined boxes channels n channel old new from_end to_end as_initiator as_other for_initiator for_other k has =
    let more : take (n + 1) channels ≡ take n channels ++ channel ∷ [] = take_more channels n channel k.below ∙ ap (λ (c : ChannelState). take n channels ++ c ∷ []) (sym k.is) in
    subst (λ (l : List ChannelState). IsLayoutSoFar boxes l new) (sym more)
    (one_joined boxes channels n channel old new from_end to_end as_initiator as_other for_initiator for_other k has)

-- ---- step by step

pub to_join_view : (boxes : List BoxState) (channels : List ChannelState) (n : ℕ) (channel view : ChannelState) (layout : TeamLayout) → view ≡ channel → IsToJoin boxes channels n channel layout → IsToJoin boxes channels n view layout
to_join_view boxes channels n channel view layout same k = subst (λ (c : ChannelState). IsToJoin boxes channels n c layout) (sym same) k

-- what is known when the first box has its new end
pub record HasSecondRoom (channel : ChannelState) (layout : TeamLayout) : Type 0 where
  pub to : channel.to < length layout.ends.items
  pub ins : length layout.ins.items ≡ length layout.ends.items
  pub outs : length layout.outs.items ≡ length layout.ends.items
  pub few : length (of_box (inner_lists layout.ends.items) channel.to) ≤ SLOT_LIMIT + 1

added_count : {A : Type 0} → (old new : List (Vec A Global)) (who : ℕ) (x : A) → inner_lists new ≡ with_added (inner_lists old) who x → length new ≡ length old
added_count {A} old new who x is = sym (inner_count new) ∙ (ap (λ (l : List (List A)). length l) is ∙ (boxes_added (inner_lists old) who x ∙ inner_count old))

pub has_second_room : (old mid : TeamLayout) (channel : ChannelState) (lane : ℕ) (taking : InPort) (giving : OutPort) → HasEndRoom channel old → IsEndAdded old mid channel.from lane taking giving → HasSecondRoom channel mid
has_second_room old mid channel lane taking giving room added =
    let ends = added_count old.ends.items mid.ends.items channel.from lane added.ends in
    let ins = added_count old.ins.items mid.ins.items channel.from taking added.ins in
    let outs = added_count old.outs.items mid.outs.items channel.from giving added.outs in
    let here : channel.from < length (inner_lists old.ends.items) = omega (arith, room.from, inner_count old.ends.items) in
    record {
      to = omega (arith, room.to, ends);
      ins = ins ∙ (room.ins ∙ sym ends);
      outs = outs ∙ (room.outs ∙ sym ends);
      few =
          subst (λ (l : List (List ℕ)). length (of_box l channel.to) ≤ SLOT_LIMIT + 1) (sym added.ends)
          (omega (arith, one_more_at_most (inner_lists old.ends.items) channel.from channel.to lane here, room.few channel.to));
    }

-- the layout when all is done
abbrev pub joined_layout : TeamLayout → Vec LaneEnds Global → Vec (Vec (ℕ × ℕ) Global) Global → TeamLayout
joined_layout last lanes places = record { lanes = lanes; ends = last.ends; places = places; ins = last.ins; outs = last.outs }

pub has_joined : (old mid last : TeamLayout) (lanes : Vec LaneEnds Global) (places : Vec (Vec (ℕ × ℕ) Global) Global) (pushed : List LaneEnds) (n : ℕ) (channel : ChannelState) (from_end to_end : ℕ) (as_initiator as_other : InPort) (for_initiator for_other : OutPort)
    → IsEndAdded old mid channel.from (2 * n) as_initiator for_other → IsEndAdded mid last channel.to (2 * n + 1) as_other for_initiator
    → from_end ≡ length (of_box (inner_lists old.ends.items) channel.from) → to_end ≡ length (of_box (inner_lists mid.ends.items) channel.to)
    → pushed ≡ last.lanes.items ++ to_initiator channel.from channel.to from_end to_end ∷ [] → lanes.items ≡ pushed ++ to_other channel.from channel.to from_end to_end ∷ []
    → ArePlaced channel from_end to_end (inner_lists last.places.items) (inner_lists places.items)
    → ArePorts as_initiator as_other for_initiator for_other → IsNewIn as_initiator → IsNewIn as_other → IsNewOut for_initiator → IsNewOut for_other
    → HasJoined old (joined_layout last lanes places) n channel from_end to_end as_initiator as_other for_initiator for_other
has_joined old mid last lanes places pushed n channel from_end to_end as_initiator as_other for_initiator for_other one two from_is to_is first second placed ports new_initiator new_other out_initiator out_other =
    let lanes_kept : last.lanes ≡ old.lanes = two.lanes ∙ one.lanes in
    let places_kept : last.places ≡ old.places = two.places ∙ one.places in
    record {
      ends = two.ends ∙ ap (λ (l : List (List ℕ)). with_added l channel.to (2 * n + 1)) one.ends;
      ins = two.ins ∙ ap (λ (l : List (List InPort)). with_added l channel.to as_other) one.ins;
      outs = two.outs ∙ ap (λ (l : List (List OutPort)). with_added l channel.to for_initiator) one.outs;
      lanes =
          second
          ∙ ap (λ (l : List LaneEnds). l ++ to_other channel.from channel.to from_end to_end ∷ [])
          (first ∙ ap (λ (v : Vec LaneEnds Global). v.items ++ to_initiator channel.from channel.to from_end to_end ∷ []) lanes_kept);
      places = subst (λ (v : Vec (Vec (ℕ × ℕ) Global) Global). ArePlaced channel from_end to_end (inner_lists v.items) (inner_lists places.items)) places_kept placed;
      from_is = from_is;
      to_is = to_is ∙ ap (λ (l : List (List ℕ)). length (of_box l channel.to)) one.ends;
      ports = ports;
      new_initiator = new_initiator;
      new_other = new_other;
      out_initiator = out_initiator;
      out_other = out_other;
    }
