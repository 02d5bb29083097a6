-- What is carried over between two phases is what the laws of phases ask for.
use Rattle.std.proofs.Common.{◌≡◌, inl, inr, ◌<◌, ◌≤◌, ◌+◌, ◌*◌, ◌/◌, ◌%◌, ◌++◌, Bool, true, false, ℕ, Some, List, length, map, get_or, slice_get, refl, ap, ap₂, sym, ◌∙◌, subst, arith}
use Rattle.std.proofs.lemmas.Bool.{cases_lt}
use Rattle.std.proofs.lemmas.Option.{slice_get_within}
use Rattle.mc_signal.specs.declared.Tagged.{Tagged}
use Rattle.mc_merge.specs.LaneLogs.{without_stamps}
use Rattle.mc_merge.specs.Lanes.{absent_channel}
use Rattle.mc_model.specs.Worlds.{ChannelState, WorldState}
use Rattle.mc_port.specs.Ends.{given, received}
use Rattle.mc_port.specs.declared.stamped.Stamped.{Stamped}
use Rattle.mc_merge.specs.Account.{part_lane}
use Rattle.mc_merge.specs.Phases.{Layout, before_ring, lane_in}
use Rattle.mc_part.specs.Divisions.{layout_of, part_of, place_in}
use Rattle.mc_part.proofs.Placed.{touch_on}
use Rattle.mc_part.specs.Carrying.{lane_at, waiting_at}
use Rattle.mc_part.specs.Networks.{AreCarried, IsCarried, LeadsAcross, states_of}
use Rattle.mc_part.specs.Parts.{state_of}
use Rattle.mc_part.specs.Phases.{EachChanged}
use Rattle.mc_part.specs.Ports.{rings_of, sides}
use Rattle.mc_part.specs.declared.part.Part.{Part}
use Rattle.mc_part.specs.declared.part_run.PartRun.{PartRun}
use Rattle.mc_part.specs.declared.port.Port.{Port}
use Rattle.mc_divided.specs.Networks.{crossings_of, is_apart}
use Rattle.mc_divided.specs.Phasing.{CarriesOver, HasCrossed, IsClosed, IsLaneCarried, IsNoEnd, IsSameAt, IsSameRun, StaysAt}
use Rattle.mc_divided.specs.declared.network.Crossing.{Crossing}
use Rattle.mc_divided.proofs.Crossings.{IsRoute, inner_no_end}
use Rattle.mc_divided.proofs.CarriedOver.{crossed_later, stays_on}
use Rattle.mc_divided.proofs.Lists.{one_of}
use Rattle.mc_divided.proofs.PartsBy.{by_parts, empty_part, part_is, part_past, parts_by, run_there}
use Rattle.mc_divided.proofs.Ways.{IsAcross, IsWay, before_is, ends_apart, given_is, inner_ends, lane_half, lane_is, lane_side, lane_whole, received_is, way_after}

-- ---- one lane

-- a lane that was carried between the parts of its way
pub one_carried : (layout : Layout) (parts drained : ℕ → Part) (lane from to sender taker : ℕ) → IsWay layout parts lane from to sender taker → (way_2 : IsWay layout drained lane from to sender taker)
    → IsLaneCarried (parts from) (drained from) (parts to) (drained to) sender taker → IsCarried layout parts drained lane
one_carried layout parts drained lane from to sender taker way way_2 carried =
    let out : way.out ≡ carried.out = one_of (slice_get (parts from).ports.items sender) way.out carried.out way.sends carried.sends in
    let into : way.into ≡ carried.into = one_of (slice_get (parts to).ports.items taker) way.into carried.into way.takes carried.takes in
    let out_2 : way_2.out ≡ carried.out_2 = one_of (slice_get (drained from).ports.items sender) way_2.out carried.out_2 way_2.sends carried.sends_2 in
    let into_2 : way_2.into ≡ carried.into_2 = one_of (slice_get (drained to).ports.items taker) way_2.into carried.into_2 way_2.takes carried.takes_2 in
    let here : lane_in layout (states_of parts) lane ≡ lane_at (parts to) taker carried.into = lane_is layout parts lane from to sender taker way ∙ ap (λ (p : Port). lane_at (parts to) taker p) into in
    let before : before_ring layout (states_of parts) lane ≡ waiting_at (parts from) sender carried.out = before_is layout parts lane from to sender taker way ∙ ap (λ (p : Port). waiting_at (parts from) sender p) out in
    let here_2 : lane_in layout (states_of drained) lane ≡ lane_at (drained to) taker carried.into =
    ap (λ (t : ℕ × ℕ). part_lane (state_of (drained t.0)) t.1) way.takers ∙ ap (λ (p : Port). lane_at (drained to) taker p) into in
    let before_2 : before_ring layout (states_of drained) lane ≡ waiting_at (drained from) sender carried.out =
    ap (λ (t : ℕ × ℕ). part_lane (state_of (drained t.0)) t.1) way.senders ∙ ap (λ (p : Port). waiting_at (drained from) sender p) out in
    record {
      left = carried.left;
      all = ap (λ (l : List Stamped). l ++ carried.left) (received_is layout parts lane from to sender taker way ∙ ap (λ (p : Port). received p.from) into)
          ∙ (carried.all ∙ sym (given_is layout parts lane from to sender taker way ∙ ap (λ (p : Port). given p.to) out));
      rest = here_2 ∙ (carried.came ∙ ap₂ (λ (l w : List Tagged). l ++ (without_stamps carried.left ++ w)) (sym here) (sym before));
      empty = before_2 ∙ carried.empty;
      even = received_is layout drained lane from to sender taker way_2 ∙ (ap (λ (p : Port). received p.from) into_2
          ∙ (carried.even ∙ sym (given_is layout drained lane from to sender taker way_2 ∙ ap (λ (p : Port). given p.to) out_2)));
    }

-- ---- all parts

-- nothing of a part changed but what is under way on lanes that cross, its log and its stamps
pub record IsLike (a b : Part) : Type 0 where
  pub boxes : b.engine.boxes ≡ a.engine.boxes
  pub channels : b.engine.channels ≡ a.engine.channels
  pub lane_count : length b.engine.lanes ≡ length a.engine.lanes
  pub sides_are : sides b.ports.items ≡ sides a.ports.items
  pub rings_are : map rings_of b.ports.items ≡ map rings_of a.ports.items

like_none : (a : Part) → IsLike a a
like_none a = record { boxes = refl; channels = refl; lane_count = refl; sides_are = refl; rings_are = refl }

-- what crosses was carried over, and all else stayed, but logs and stamps
pub record AreDrained (crossings : List Crossing) (old new : List PartRun) : Type 0 where
  pub count : length new ≡ length old
  pub like : (i : ℕ) (a b : PartRun) → slice_get old i ≡ Some a → slice_get new i ≡ Some b → IsLike a.part b.part
  pub crossed : (i : ℕ) (crossing : Crossing) → slice_get crossings i ≡ Some crossing → HasCrossed old new crossing
  pub others : (part port : ℕ) → IsNoEnd crossings part port → StaysAt old new part port

closed_at : (a b : PartRun) (port : ℕ) → IsClosed a b → IsSameAt a.part b.part port
closed_at a b port closed = record {
  port_is = ap (λ (r : PartRun). slice_get r.part.ports.items port) closed.kept;
  lanes = λ lane half. ap (λ (r : PartRun). part_lane (state_of r.part) lane) closed.kept;
}

like_closed : (a b c : PartRun) → IsSameRun a b → IsClosed b c → IsLike a.part c.part
like_closed a b c same closed = record {
  boxes = ap (λ (r : PartRun). r.part.engine.boxes) closed.kept ∙ same.part.boxes;
  channels = ap (λ (r : PartRun). r.part.engine.channels) closed.kept ∙ same.part.channels;
  lane_count = ap (λ (r : PartRun). length r.part.engine.lanes) closed.kept ∙ same.part.lane_count;
  sides_are = ap (λ (r : PartRun). sides r.part.ports.items) closed.kept ∙ same.part.sides_are;
  rings_are = ap (λ (r : PartRun). map rings_of r.part.ports.items) closed.kept ∙ same.part.rings_are;
}

pub drained_closed : (crossings : List Crossing) (old mid new : List PartRun) → CarriesOver crossings old mid → EachChanged IsClosed mid new → AreDrained crossings old new
drained_closed crossings old mid new carried closed = record {
  count = closed.count ∙ carried.same.count;
  like = λ i a c p q.
      let b = run_there mid i (subst (λ (n : ℕ). i < n) (sym carried.same.count) (slice_get_within old i a p)) in
      like_closed a b.0 c (carried.same.each i a b.0 p b.1) (closed.each i b.0 c b.1 q);
  crossed = λ i crossing there. crossed_later old mid new crossing closed.count (carried.crossed i crossing there) (λ a b p q. closed_at a b crossing.from_port (closed.each crossing.from a b p q)) (λ a b p q. closed_at a b crossing.to_port (closed.each crossing.to a b p q));
  others = λ part port none. stays_on old mid new part port carried.same.count (carried.others part port none) (λ a b p q. closed_at a b port (closed.each part a b p q));
}

-- ---- all lanes

-- the ways of the lanes that cross
pub record HaveWays (world : WorldState) (assigned : List ℕ) (parts : ℕ → Part) : Type 0 where
  pub there : (i : ℕ) (crossing : Crossing) → slice_get (crossings_of assigned world.channels) i ≡ Some crossing → (route : IsRoute world assigned crossing)
      → IsWay (layout_of world assigned) parts (2 * route.c + 1) crossing.from crossing.to crossing.from_port crossing.to_port
  pub back : (i : ℕ) (crossing : Crossing) → slice_get (crossings_of assigned world.channels) i ≡ Some crossing → (route : IsRoute world assigned crossing)
      → IsWay (layout_of world assigned) parts (2 * route.c + 0) crossing.to crossing.from crossing.to_port crossing.from_port

pub ways_after : (world : WorldState) (assigned : List ℕ) (parts parts_2 : ℕ → Part) → HaveWays world assigned parts → ((part : ℕ) → map rings_of (parts_2 part).ports.items ≡ map rings_of (parts part).ports.items)
    → ((part : ℕ) → sides (parts_2 part).ports.items ≡ sides (parts part).ports.items) → HaveWays world assigned parts_2
ways_after world assigned parts parts_2 ways rings starts = record {
  there = λ i crossing at route. way_after (layout_of world assigned) parts parts_2 (2 * route.c + 1) crossing.from crossing.to crossing.from_port crossing.to_port (ways.there i crossing at route) rings starts;
  back = λ i crossing at route. way_after (layout_of world assigned) parts parts_2 (2 * route.c + 0) crossing.to crossing.from crossing.to_port crossing.from_port (ways.back i crossing at route) rings starts;
}

-- lanes between two lists of parts
between : (none : Part) (old new : List PartRun) (from to sender taker : ℕ) (a b a_2 b_2 : PartRun) → slice_get old from ≡ Some a → slice_get old to ≡ Some b → slice_get new from ≡ Some a_2 → slice_get new to ≡ Some b_2
    → IsLaneCarried a.part a_2.part b.part b_2.part sender taker → IsLaneCarried (parts_by none old from) (parts_by none new from) (parts_by none old to) (parts_by none new to) sender taker
between none old new from to sender taker a b a_2 b_2 p q p_2 q_2 carried =
    subst (λ (x : Part). IsLaneCarried x (parts_by none new from) (parts_by none old to) (parts_by none new to) sender taker) (sym (part_is none old from a p))
    (subst (λ (x : Part). IsLaneCarried a.part x (parts_by none old to) (parts_by none new to) sender taker) (sym (part_is none new from a_2 p_2))
    (subst (λ (x : Part). IsLaneCarried a.part a_2.part x (parts_by none new to) sender taker) (sym (part_is none old to b q))
    (subst (λ (x : Part). IsLaneCarried a.part a_2.part b.part x sender taker) (sym (part_is none new to b_2 q_2)) carried)))

across_carried : (world : WorldState) (assigned : List ℕ) (none : Part) (old new : List PartRun) (lane : ℕ) → AreDrained (crossings_of assigned world.channels) old new → HaveWays world assigned (parts_by none old) → HaveWays world assigned (parts_by none new)
    → IsAcross world assigned lane → IsCarried (layout_of world assigned) (parts_by none old) (parts_by none new) lane
across_carried world assigned none old new lane drained ways ways_2 across =
    let x : Crossing = across.crossing in
    let c : HasCrossed old new x = drained.crossed across.i x across.there in
    let route = across.route in
    elim across.is [
      | inl is ↦
          subst (λ (n : ℕ). IsCarried (layout_of world assigned) (parts_by none old) (parts_by none new) n) (sym is)
          (one_carried (layout_of world assigned) (parts_by none old) (parts_by none new) (2 * route.c + 1) x.from x.to x.from_port x.to_port (ways.there across.i x across.there route) (ways_2.there across.i x across.there route)
          (between none old new x.from x.to x.from_port x.to_port c.from c.to c.from_2 c.to_2 c.from_there c.to_there c.from_there_2 c.to_there_2 c.there))
      | inr is ↦
          subst (λ (n : ℕ). IsCarried (layout_of world assigned) (parts_by none old) (parts_by none new) n) (sym is)
          (one_carried (layout_of world assigned) (parts_by none old) (parts_by none new) (2 * route.c + 0) x.to x.from x.to_port x.from_port (ways.back across.i x across.there route) (ways_2.back across.i x across.there route)
          (between none old new x.to x.from x.to_port x.from_port c.to c.from c.to_2 c.from_2 c.to_there c.from_there c.to_there_2 c.from_there_2 c.back))
    ]

-- a lane within a part stays
stays_lane : (none : Part) (old new : List PartRun) (part port lane : ℕ) → length new ≡ length old → StaysAt old new part port → lane / 2 ≡ port → part_lane (state_of (parts_by none new part)) lane ≡ part_lane (state_of (parts_by none old part)) lane
stays_lane none old new part port lane count stays half = elim (cases_lt part (length old)) [
  | inl inside ↦
      let a = run_there old part inside in
      let b = run_there new part (subst (λ (n : ℕ). part < n) (sym count) inside) in
      ap (λ (p : Part). part_lane (state_of p) lane) (part_is none new part b.0 b.1)
      ∙ ((stays a.0 b.0 a.1 b.1).lanes lane half ∙ ap (λ (p : Part). part_lane (state_of p) lane) (sym (part_is none old part a.0 a.1)))
  | inr outside ↦
      ap (λ (p : Part). part_lane (state_of p) lane) (part_past none new part (subst (λ (n : ℕ). n ≤ part) (sym count) outside) ∙ sym (part_past none old part outside))
]

half_of : (k side : ℕ) → side < 2 → (2 * k + side) / 2 ≡ k
half_of k side low = omega arith

inner_by : (test : Bool) (world : WorldState) (assigned : List ℕ) (none : Part) (old new : List PartRun) (c side : ℕ) → is_apart assigned world.channels c ≡ test → AreDrained (crossings_of assigned world.channels) old new → c < length world.channels → side < 2
    → (layout_of world assigned).senders (2 * c + side) ≡ (layout_of world assigned).takers (2 * c + side)
    → lane_in (layout_of world assigned) (states_of (parts_by none new)) (2 * c + side) ≡ lane_in (layout_of world assigned) (states_of (parts_by none old)) (2 * c + side)
inner_by false world assigned none old new c side inner drained inside low same =
    let channel : ChannelState = get_or world.channels c absent_channel in
    let part : ℕ = part_of assigned channel.from in
    let port : ℕ = place_in assigned world.channels part c in
    let ends = inner_ends world assigned c side low inner in
    let stays = drained.others part port (inner_no_end world assigned c part inside inner (touch_on assigned part 0 channel refl)) in
    ap (λ (t : ℕ × ℕ). part_lane (state_of (parts_by none new t.0)) t.1) ends.1
    ∙ (stays_lane none old new part port (2 * port + side) drained.count stays (half_of port side low) ∙ ap (λ (t : ℕ × ℕ). part_lane (state_of (parts_by none old t.0)) t.1) (sym ends.1))
inner_by true world assigned none old new c side passes drained inside low same =
    absurd (ends_apart world assigned c side passes low same)

pub are_carried : (world : WorldState) (assigned : List ℕ) (none : Part) (old new : List PartRun) → length world.lanes ≡ 2 * length world.channels → AreDrained (crossings_of assigned world.channels) old new
    → HaveWays world assigned (parts_by none old) → HaveWays world assigned (parts_by none new)
    → ((lane : ℕ) → LeadsAcross world (layout_of world assigned) (parts_by none old) lane → IsAcross world assigned lane) → AreCarried world (layout_of world assigned) (parts_by none old) (parts_by none new)
are_carried world assigned none old new each_lane drained ways ways_2 across = record {
  boxes = λ part. (like part).boxes;
  channels = λ part. (like part).channels;
  lane_counts = λ part. (like part).lane_count;
  inner = λ lane inside same.
      subst (λ (n : ℕ). lane_in (layout_of world assigned) (states_of (parts_by none new)) n ≡ lane_in (layout_of world assigned) (states_of (parts_by none old)) n) (sym (lane_whole lane))
      (inner_by (is_apart assigned world.channels (lane / 2)) world assigned none old new (lane / 2) (lane % 2) refl drained (lane_half lane (length world.lanes) (length world.channels) each_lane inside) (lane_side lane)
      (subst (λ (n : ℕ). (layout_of world assigned).senders n ≡ (layout_of world assigned).takers n) (lane_whole lane) same));
  crossing = λ lane leads. across_carried world assigned none old new lane drained ways ways_2 (across lane leads);
}
  where
    like : (part : ℕ) → IsLike (parts_by none old part) (parts_by none new part)
    like part = by_parts IsLike none old new drained.count drained.like (like_none (empty_part none)) part
