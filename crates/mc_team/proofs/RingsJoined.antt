-- The ends of rings, beside the channel ends of the boxes, where a channel more joins two of them.
use Rattle.std.proofs.Common.{◌≡◌, ◌<◌, ◌+◌, ◌*◌, inl, inr, ℕ, Option, Some, All, List, length, map, ap, sym, ◌∙◌, subst, arith}
use Rattle.std.proofs.Math.ListN.{get_or}
use Rattle.std.proofs.lemmas.Option.{slice_get-get_or, slice_get-map, slice_get_within}
use Rattle.std.specs.List.{slice_get}
use Rattle.std.specs.Option.{option_map}
use Rattle.mc_team.specs.Layouts.{AreEnds, AreRings, at_end, ends_of_lane, of_box}
use Rattle.mc_team.specs.declared.layout.LaneEnds.{LaneEnds}
use Rattle.mc_team.proofs.TeamAdded.{all_added, boxes_added, counts_added, entry_added, entry_stays, with_added}
use Rattle.mc_team.proofs.EndsJoined.{AreJoined, IsOneOf, joined_ends, joined_lanes, lane_before, lane_first, lane_second, lanes_more, one_of, to_initiator, to_other, with_lanes}
use Rattle.mc_port.specs.Ends.{RingName, in_ring, out_ring}
use Rattle.mc_port.specs.declared.ends.InPort.{InPort}
use Rattle.mc_port.specs.declared.ends.OutPort.{OutPort}

-- ---- lists that have an entry for each channel end

pub record AreBeside (A : Type 0) (lists : List (List A)) (ends : List (List ℕ)) : Type 0 where
  pub boxes : length lists ≡ length ends
  pub counts : (who : ℕ) → length (of_box lists who) ≡ length (of_box ends who)

abbrev pub joined_with : {A : Type 0} → List (List A) → ℕ → ℕ → A → A → List (List A)
joined_with lists from to one two = with_added (with_added lists from one) to two

beside_added : {A : Type 0} → (lists : List (List A)) (ends : List (List ℕ)) (who : ℕ) (x : A) (lane : ℕ) → who < length ends → AreBeside A lists ends → AreBeside A (with_added lists who x) (with_added ends who lane)
beside_added lists ends who x lane here beside = record {
  boxes = boxes_added lists who x ∙ (beside.boxes ∙ sym (boxes_added ends who lane));
  counts = counts_added lists ends who x lane (omega (arith, beside.boxes)) beside.boxes beside.counts;
}

-- they have one for each of the two new ends, too
pub beside_joined : {A : Type 0} → (lists : List (List A)) (ends : List (List ℕ)) (n from to : ℕ) (one two : A) → from < length ends → to < length ends → AreBeside A lists ends
    → AreBeside A (joined_with lists from to one two) (joined_ends ends n from to)
beside_joined lists ends n from to one two from_there to_there beside =
    beside_added (with_added lists from one) (with_added ends from (2 * n)) to two (2 * n + 1) (omega (arith, boxes_added ends from (2 * n)))
    (beside_added lists ends from one (2 * n) from_there beside)

-- where the entries are then
pub record AreRead (A : Type 0) (old new : List (List A)) (from to from_end to_end : ℕ) (one two : A) : Type 0 where
  pub first : at_end new from from_end ≡ Some one
  pub second : at_end new to to_end ≡ Some two
  pub stays : (who end : ℕ) → end < length (of_box old who) → at_end new who end ≡ at_end old who end

pub read_joined : {A : Type 0} → (lists : List (List A)) (lanes : List LaneEnds) (ends : List (List ℕ)) (n from to from_end to_end : ℕ) (one two : A) → AreJoined lanes ends n from to from_end to_end → AreBeside A lists ends
    → AreRead A lists (joined_with lists from to one two) from to from_end to_end one two
read_joined lists lanes ends n from to from_end to_end one two joined beside =
    let from_there : from < length lists = omega (arith, joined.from_there, beside.boxes) in
    let to_there : to < length (with_added lists from one) = omega (arith, joined.to_there, beside.boxes, boxes_added lists from one) in
    let beside_one = beside_added lists ends from one (2 * n) joined.from_there beside in
    record {
      first = entry_stays (with_added lists from one) to two from from_end one to_there (entry_added lists from one from_end from_there (joined.from_is ∙ sym (beside.counts from)));
      second = entry_added (with_added lists from one) to two to_end to_there (joined.to_is ∙ sym (beside_one.counts to));
      stays = λ who end inside.
          let value = get_or (of_box lists who) end one in
          let is : at_end lists who end ≡ Some (get_or (of_box lists who) end one) = slice_get-get_or (of_box lists who) end one inside in
          entry_stays (with_added lists from one) to two who end value to_there (entry_stays lists from one who end value from_there is) ∙ sym is;
    }

-- ---- rings

-- the name of the ring at a channel end
taken_at : List (List InPort) → ℕ → ℕ → Option RingName
taken_at ins who end = option_map in_ring (at_end ins who end)

given_at : List (List OutPort) → ℕ → ℕ → Option RingName
given_at outs who end = option_map out_ring (at_end outs who end)

taken_is : (ins : List (List InPort)) (who end : ℕ) → slice_get (map in_ring (of_box ins who)) end ≡ taken_at ins who end
unfolding taken_at
taken_is ins who end = slice_get-map in_ring (of_box ins who) end

given_is : (outs : List (List OutPort)) (who end : ℕ) → slice_get (map out_ring (of_box outs who)) end ≡ given_at outs who end
unfolding given_at
given_is outs who end = slice_get-map out_ring (of_box outs who) end

-- a lane has one ring
HasRing : List (List InPort) → List (List OutPort) → LaneEnds → Type 0
HasRing ins outs lane = taken_at ins lane.to lane.to_end ≡ given_at outs lane.from lane.from_end

has_ring : (ins : List (List InPort)) (outs : List (List OutPort)) (lane : LaneEnds)
    → slice_get (map in_ring (of_box ins lane.to)) lane.to_end ≡ slice_get (map out_ring (of_box outs lane.from)) lane.from_end → HasRing ins outs lane
unfolding HasRing
has_ring ins outs lane is = sym (taken_is ins lane.to lane.to_end) ∙ (is ∙ given_is outs lane.from lane.from_end)

ring_has : (ins : List (List InPort)) (outs : List (List OutPort)) (lane : LaneEnds) → HasRing ins outs lane
    → slice_get (map in_ring (of_box ins lane.to)) lane.to_end ≡ slice_get (map out_ring (of_box outs lane.from)) lane.from_end
unfolding HasRing
ring_has ins outs lane is = taken_is ins lane.to lane.to_end ∙ (is ∙ sym (given_is outs lane.from lane.from_end))

-- a lane whose ends stay keeps its ring
ring_kept : (ins in_new : List (List InPort)) (outs out_new : List (List OutPort)) (lane : LaneEnds) → at_end in_new lane.to lane.to_end ≡ at_end ins lane.to lane.to_end
    → at_end out_new lane.from lane.from_end ≡ at_end outs lane.from lane.from_end → HasRing ins outs lane → HasRing in_new out_new lane
unfolding HasRing taken_at given_at
ring_kept ins in_new outs out_new lane taken given has = ap (option_map in_ring) taken ∙ (has ∙ ap (option_map out_ring) (sym given))

-- a lane with the two ends of one ring
ring_new : (ins : List (List InPort)) (outs : List (List OutPort)) (lane : LaneEnds) (taking : InPort) (giving : OutPort) → at_end ins lane.to lane.to_end ≡ Some taking
    → at_end outs lane.from lane.from_end ≡ Some giving → out_ring giving ≡ in_ring taking → HasRing ins outs lane
unfolding HasRing taken_at given_at
ring_new ins outs lane taking giving taken given same = ap (option_map in_ring) taken ∙ (ap (λ (name : RingName). Some name) (sym same) ∙ ap (option_map out_ring) (sym given))

-- the ports at the two ends of a channel: what is given at one of them is taken at the other
pub record ArePorts (as_initiator as_other : InPort) (for_initiator for_other : OutPort) : Type 0 where
  pub initiator : out_ring for_initiator ≡ in_ring as_initiator
  pub other : out_ring for_other ≡ in_ring as_other

pub rings_joined : (lanes : List LaneEnds) (ends : List (List ℕ)) (ins : List (List InPort)) (outs : List (List OutPort)) (n from to from_end to_end : ℕ) (as_initiator as_other : InPort) (for_initiator for_other : OutPort)
    → AreJoined lanes ends n from to from_end to_end → AreEnds lanes ends → AreBeside InPort ins ends → AreBeside OutPort outs ends → ArePorts as_initiator as_other for_initiator for_other → AreRings lanes ins outs
    → AreRings (joined_lanes lanes from to from_end to_end) (joined_with ins from to as_initiator as_other) (joined_with outs from to for_other for_initiator)
rings_joined lanes ends ins outs n from to from_end to_end as_initiator as_other for_initiator for_other joined are in_beside out_beside ports rings lane below =
    let first : LaneEnds = to_initiator from to from_end to_end in
    let second : LaneEnds = to_other from to from_end to_end in
    let all_ins : List (List InPort) = joined_with ins from to as_initiator as_other in
    let all_outs : List (List OutPort) = joined_with outs from to for_other for_initiator in
    let in_read = read_joined ins lanes ends n from to from_end to_end as_initiator as_other joined in_beside in
    let out_read = read_joined outs lanes ends n from to from_end to_end for_other for_initiator joined out_beside in
    let count : length (with_lanes lanes first second) ≡ 2 * n + 2 = lanes_more lanes first second ∙ ap (λ (l : ℕ). l + 2) joined.count in
    let which : IsOneOf lane n = one_of lane n (length (with_lanes lanes first second)) count below in
    ring_has all_ins all_outs (ends_of_lane (with_lanes lanes first second) lane)
    (elim which.is [
      | inl old ↦
          let inside : lane < length lanes = omega (arith, joined.count) in
          let at : LaneEnds = ends_of_lane lanes lane in
          subst (λ (e : LaneEnds). HasRing all_ins all_outs e) (sym (lane_before lanes first second lane inside))
          (ring_kept ins all_ins outs all_outs at
          (in_read.stays at.to at.to_end (omega (arith, slice_get_within (of_box ends at.to) at.to_end _ (are.taking lane inside), in_beside.counts at.to)))
          (out_read.stays at.from at.from_end (omega (arith, slice_get_within (of_box ends at.from) at.from_end _ (are.giving lane inside), out_beside.counts at.from)))
          (has_ring ins outs at (rings lane inside)))
      | inr new ↦ elim new [
        | inl is ↦
            subst (λ (e : LaneEnds). HasRing all_ins all_outs e) (sym (lane_first lanes first second lane (joined.count ∙ sym is)))
            (ring_new all_ins all_outs first as_initiator for_initiator in_read.first out_read.second ports.initiator)
        | inr is ↦
            subst (λ (e : LaneEnds). HasRing all_ins all_outs e) (sym (lane_second lanes first second lane (ap (λ (l : ℕ). l + 1) joined.count ∙ sym is)))
            (ring_new all_ins all_outs second as_other for_other in_read.second out_read.first ports.other)
      ]
    ])

-- what holds of all ports holds of the new ones too
pub all_joined : {A : Type 0} → (P : A → Type 0) (lists : List (List A)) (ends : List (List ℕ)) (from to : ℕ) (one two : A) → from < length ends → to < length ends → AreBeside A lists ends → P one → P two
    → ((who : ℕ) → All P (of_box lists who)) → (who : ℕ) → All P (of_box (joined_with lists from to one two) who)
all_joined P lists ends from to one two from_there to_there beside first second old =
    all_added P (with_added lists from one) to two (omega (arith, boxes_added lists from one, beside.boxes)) second
    (all_added P lists from one (omega (arith, beside.boxes)) first old)
