-- The lanes of the network that cross, by the ports of the parts at their ends.
use Rattle.std.proofs.Common.{◌≡◌, ◌⊎◌, inl, inr, ◌==◌, ◌<◌, ◌≤◌, ◌+◌, ◌*◌, ◌-◌, ◌/◌, ◌%◌, not, if◌then◌else◌, Bool, true, false, ℕ, zero, suc, Some, Option, List, [], length, map, get_or, slice_get, refl, ap, sym, ◌∙◌, subst, arith, true≢false, eq-eqb}
use Rattle.std.specs.Option.{option_map}
use Rattle.std.proofs.lemmas.Bool.{eqb-true}
use Rattle.std.proofs.lemmas.Option.{get_or_from_slice_get, slice_get-map, slice_get_within}
use Rattle.mc_merge.specs.Lanes.{absent_channel, leads_from, leads_to}
use Rattle.mc_model.specs.Worlds.{ChannelState, WorldState}
use Rattle.mc_port.specs.Ends.{given, received}
use Rattle.mc_merge.specs.Account.{PartState, part_lane}
use Rattle.mc_merge.specs.Phases.{IsApart, IsLayout, Layout, SendsAt, TakesAt, before_ring, lane_in}
use Rattle.mc_part.specs.Divisions.{is_part, layout_of, part_of, place_in}
use Rattle.mc_part.proofs.Slots.{end_on}
use Rattle.mc_part.specs.Carrying.{lane_at, waiting_at}
use Rattle.mc_part.specs.Networks.{HaveRun, LeadsAcross, given_on, received_on, states_of, tables_at}
use Rattle.mc_part.specs.Parts.{LeadsAway, state_of, tables_of}
use Rattle.mc_part.specs.Ports.{given_by, into_lane, out_lane, received_by, rings_of, sides}
use Rattle.mc_part.specs.declared.part.Part.{Part}
use Rattle.mc_part.specs.declared.part_run.PartRun.{PartRun}
use Rattle.mc_part.specs.declared.port.Port.{Port}
use Rattle.mc_divided.specs.Networks.{AreJoined, IsJoined, crossing_at, crossings_of, is_apart}
use Rattle.mc_divided.specs.declared.network.Crossing.{Crossing}
use Rattle.mc_divided.proofs.CarriedLanes.{into_half, out_half}
use Rattle.mc_divided.proofs.Crossings.{IsRoute, some_of, has_crossing, not_one, routes_of, senders_at, takers_at}
use Rattle.mc_divided.proofs.PartsBy.{part_is, parts_by}

-- ---- the lanes of a port

side_of : (ports : List Port) (k : ℕ) (port : Port) → slice_get ports k ≡ Some port → get_or (sides ports) k true ≡ port.starts_here
side_of ports k port there =
    get_or_from_slice_get (sides ports) k port.starts_here true (slice_get-map (λ (p : Port). p.starts_here) ports k ∙ ap (option_map (λ (p : Port). p.starts_here)) there)

side_inside : (ports : List Port) (k : ℕ) (port : Port) → slice_get ports k ≡ Some port → k < length (sides ports)
side_inside ports k port there =
    slice_get_within (sides ports) k port.starts_here (slice_get-map (λ (p : Port). p.starts_here) ports k ∙ ap (option_map (λ (p : Port). p.starts_here)) there)

-- a lane to a box that is here comes in
into_by : (tables : WorldState) (boxes k side : ℕ) (starts : Bool) → side < 2 → boxes ≤ leads_to tables (out_lane k starts) → leads_to tables (2 * k + side) < boxes → into_lane k starts ≡ 2 * k + side
into_by tables boxes k zero true low away here = refl
into_by tables boxes k (suc zero) true low away here = absurd (omega (arith, away, here))
into_by tables boxes k zero false low away here = absurd (omega (arith, away, here))
into_by tables boxes k (suc zero) false low away here = refl
into_by tables boxes k (suc (suc side)) starts low away here = absurd (omega (arith, low))

out_by : (tables : WorldState) (boxes k side : ℕ) (starts : Bool) → side < 2 → boxes ≤ leads_from tables (into_lane k starts) → leads_from tables (2 * k + side) < boxes → out_lane k starts ≡ 2 * k + side
out_by tables boxes k zero true low away here = absurd (omega (arith, away, here))
out_by tables boxes k (suc zero) true low away here = refl
out_by tables boxes k zero false low away here = refl
out_by tables boxes k (suc zero) false low away here = absurd (omega (arith, away, here))
out_by tables boxes k (suc (suc side)) starts low away here = absurd (omega (arith, low))

pub into_side : (part : Part) (k side : ℕ) (port : Port) → side < 2 → slice_get part.ports.items k ≡ Some port → LeadsAway part → leads_to (tables_of part) (2 * k + side) < length part.engine.boxes → into_lane k port.starts_here ≡ 2 * k + side
into_side part k side port low there away here =
    into_by (tables_of part) (length part.engine.boxes) k side port.starts_here low
    (subst (λ (b : Bool). length part.engine.boxes ≤ leads_to (tables_of part) (out_lane k b)) (side_of part.ports.items k port there) (away k (side_inside part.ports.items k port there)).1) here

pub out_side : (part : Part) (k side : ℕ) (port : Port) → side < 2 → slice_get part.ports.items k ≡ Some port → LeadsAway part → leads_from (tables_of part) (2 * k + side) < length part.engine.boxes → out_lane k port.starts_here ≡ 2 * k + side
out_side part k side port low there away here =
    out_by (tables_of part) (length part.engine.boxes) k side port.starts_here low
    (subst (λ (b : Bool). length part.engine.boxes ≤ leads_from (tables_of part) (into_lane k b)) (side_of part.ports.items k port there) (away k (side_inside part.ports.items k port there)).0) here

-- ---- the ports stay where they are

pub record IsPortAfter (ports : List Port) (k : ℕ) (port : Port) : Type 0 where
  pub port_2 : Port
  pub there : slice_get ports k ≡ Some port_2
  pub rings : rings_of port_2 ≡ rings_of port
  pub starts : port_2.starts_here ≡ port.starts_here

pub port_after : (a b : List Port) (k : ℕ) (port : Port) → slice_get a k ≡ Some port → map rings_of b ≡ map rings_of a → sides b ≡ sides a → IsPortAfter b k port
port_after a b k port there rings starts =
    let was : slice_get (map rings_of a) k ≡ Some (rings_of port) = slice_get-map rings_of a k ∙ ap (option_map rings_of) there in
    let of = some_of rings_of (slice_get b k) (rings_of port) (sym (slice_get-map rings_of b k) ∙ (ap (λ l. slice_get l k) rings ∙ was)) in
    let side : slice_get (sides a) k ≡ Some port.starts_here = slice_get-map (λ (p : Port). p.starts_here) a k ∙ ap (option_map (λ (p : Port). p.starts_here)) there in
    let side_2 : slice_get (sides b) k ≡ Some of.0.starts_here = slice_get-map (λ (p : Port). p.starts_here) b k ∙ ap (option_map (λ (p : Port). p.starts_here)) of.1.0 in
    record { port_2 = of.0; there = of.1.0; rings = sym of.1.1; starts = some_bool (sym side_2 ∙ (ap (λ (l : List Bool). slice_get l k) starts ∙ side)) }
  where
    some_bool : {x y : Bool} → Some x ≡ Some y → x ≡ y
    some_bool is = cc

-- ---- a lane from port to port

pub record IsWay (layout : Layout) (parts : ℕ → Part) (lane from to sender taker : ℕ) : Type 0 where
  pub out : Port
  pub into : Port
  pub sends : slice_get (parts from).ports.items sender ≡ Some out
  pub takes : slice_get (parts to).ports.items taker ≡ Some into
  pub senders : layout.senders lane ≡ (from, out_lane sender out.starts_here)
  pub takers : layout.takers lane ≡ (to, into_lane taker into.starts_here)

if_true : {A : Type 0} (test : Bool) (x y : A) → test ≡ true → (if test then x else y) ≡ x
if_true true x y is = refl
if_true false x y is = absurd (true≢false (sym is))

pub own_received : (k : ℕ) (port : Port) → received_by (Some port) (into_lane k port.starts_here) ≡ received port.from
own_received k port =
    if_true (into_lane k port.starts_here == into_lane (into_lane k port.starts_here / 2) port.starts_here) (received port.from) []
    (eq-eqb (into_lane k port.starts_here) (into_lane (into_lane k port.starts_here / 2) port.starts_here) (ap (λ (n : ℕ). into_lane n port.starts_here) (sym (into_half k port.starts_here))))

pub own_given : (k : ℕ) (port : Port) → given_by (Some port) (out_lane k port.starts_here) ≡ given port.to
own_given k port =
    if_true (out_lane k port.starts_here == out_lane (out_lane k port.starts_here / 2) port.starts_here) (given port.to) []
    (eq-eqb (out_lane k port.starts_here) (out_lane (out_lane k port.starts_here / 2) port.starts_here) (ap (λ (n : ℕ). out_lane n port.starts_here) (sym (out_half k port.starts_here))))

pub received_is : (layout : Layout) (parts : ℕ → Part) (lane from to sender taker : ℕ) (way : IsWay layout parts lane from to sender taker) → received_on layout parts lane ≡ received way.into.from
received_is layout parts lane from to sender taker way =
    ap (λ (t : ℕ × ℕ). received_by (slice_get (parts t.0).ports.items (t.1 / 2)) t.1) way.takers
    ∙ (ap (λ (o : Option Port). received_by o (into_lane taker way.into.starts_here)) (ap (λ (n : ℕ). slice_get (parts to).ports.items n) (into_half taker way.into.starts_here) ∙ way.takes)
    ∙ own_received taker way.into)

pub given_is : (layout : Layout) (parts : ℕ → Part) (lane from to sender taker : ℕ) (way : IsWay layout parts lane from to sender taker) → given_on layout parts lane ≡ given way.out.to
given_is layout parts lane from to sender taker way =
    ap (λ (t : ℕ × ℕ). given_by (slice_get (parts t.0).ports.items (t.1 / 2)) t.1) way.senders
    ∙ (ap (λ (o : Option Port). given_by o (out_lane sender way.out.starts_here)) (ap (λ (n : ℕ). slice_get (parts from).ports.items n) (out_half sender way.out.starts_here) ∙ way.sends)
    ∙ own_given sender way.out)

pub lane_is : (layout : Layout) (parts : ℕ → Part) (lane from to sender taker : ℕ) (way : IsWay layout parts lane from to sender taker) → lane_in layout (states_of parts) lane ≡ lane_at (parts to) taker way.into
lane_is layout parts lane from to sender taker way = ap (λ (t : ℕ × ℕ). part_lane (state_of (parts t.0)) t.1) way.takers

pub before_is : (layout : Layout) (parts : ℕ → Part) (lane from to sender taker : ℕ) (way : IsWay layout parts lane from to sender taker) → before_ring layout (states_of parts) lane ≡ waiting_at (parts from) sender way.out
before_is layout parts lane from to sender taker way = ap (λ (t : ℕ × ℕ). part_lane (state_of (parts t.0)) t.1) way.senders

-- ---- both lanes of a crossing

-- what the network keeps of its parts
pub record AreLaid (world : WorldState) (assigned : List ℕ) (none : Part) (runs : List PartRun) : Type 0 where
  pub laid : IsLayout world (layout_of world assigned) (tables_at (parts_by none runs)) (states_of (parts_by none runs))
  pub away : (i : ℕ) (run : PartRun) → slice_get runs i ≡ Some run → LeadsAway run.part

pub lane_inside : (n m c side : ℕ) → n ≡ 2 * m → c < m → side < 2 → 2 * c + side < n
lane_inside n m c side is below low = omega arith

one_way : (world : WorldState) (assigned : List ℕ) (none : Part) (runs : List PartRun) (c side sender taker from to : ℕ) (one two : PartRun) → AreLaid world assigned none runs → c < length world.channels → side < 2
    → (layout_of world assigned).senders (2 * c + side) ≡ (from, 2 * sender + side) → (layout_of world assigned).takers (2 * c + side) ≡ (to, 2 * taker + side)
    → slice_get runs from ≡ Some one → slice_get runs to ≡ Some two → AreJoined one.part two.part sender taker
    → IsWay (layout_of world assigned) (parts_by none runs) (2 * c + side) from to sender taker
one_way world assigned none runs c side sender taker from to one two all inside low senders takers there there_2 joined =
    let layout : Layout = layout_of world assigned in
    let lane : ℕ = 2 * c + side in
    let within : lane < length world.lanes = lane_inside (length world.lanes) (length world.channels) c side all.laid.each_lane inside low in
    let tables : ℕ → WorldState = tables_at (parts_by none runs) in
    let states : ℕ → PartState = states_of (parts_by none runs) in
    let from_is : parts_by none runs from ≡ one.part = part_is none runs from one there in
    let to_is : parts_by none runs to ≡ two.part = part_is none runs to two there_2 in
    let sends : SendsAt world layout tables states lane from (2 * sender + side) = subst (λ (t : ℕ × ℕ). SendsAt world layout tables states lane t.0 t.1) senders (all.laid.sends lane within) in
    let takes : TakesAt world layout tables states lane to (2 * taker + side) = subst (λ (t : ℕ × ℕ). TakesAt world layout tables states lane t.0 t.1) takers (all.laid.takes lane within) in
    let out : out_lane sender joined.out.starts_here ≡ 2 * sender + side =
    out_side one.part sender side joined.out low joined.sends (all.away from one there) (subst (λ (p : Part). leads_from (tables_of p) (2 * sender + side) < length p.engine.boxes) from_is sends.here) in
    let into : into_lane taker joined.into.starts_here ≡ 2 * taker + side =
    into_side two.part taker side joined.into low joined.takes (all.away to two there_2) (subst (λ (p : Part). leads_to (tables_of p) (2 * taker + side) < length p.engine.boxes) to_is takes.here) in
    record {
      out = joined.out;
      into = joined.into;
      sends = ap (λ (p : Part). slice_get p.ports.items sender) from_is ∙ joined.sends;
      takes = ap (λ (p : Part). slice_get p.ports.items taker) to_is ∙ joined.takes;
      senders = senders ∙ ap (λ (n : ℕ). (from, n)) (sym out);
      takers = takers ∙ ap (λ (n : ℕ). (to, n)) (sym into);
    }

pub way_there : (world : WorldState) (assigned : List ℕ) (none : Part) (runs : List PartRun) (crossing : Crossing) (route : IsRoute world assigned crossing) → AreLaid world assigned none runs → IsJoined runs crossing
    → IsWay (layout_of world assigned) (parts_by none runs) (2 * route.c + 1) crossing.from crossing.to crossing.from_port crossing.to_port
way_there world assigned none runs crossing route all joined =
    one_way world assigned none runs route.c 1 crossing.from_port crossing.to_port crossing.from crossing.to joined.from joined.to all route.inside (omega arith) route.there_from route.there_to joined.from_there joined.to_there joined.there

pub way_back : (world : WorldState) (assigned : List ℕ) (none : Part) (runs : List PartRun) (crossing : Crossing) (route : IsRoute world assigned crossing) → AreLaid world assigned none runs → IsJoined runs crossing
    → IsWay (layout_of world assigned) (parts_by none runs) (2 * route.c + 0) crossing.to crossing.from crossing.to_port crossing.from_port
way_back world assigned none runs crossing route all joined =
    one_way world assigned none runs route.c 0 crossing.to_port crossing.from_port crossing.to crossing.from joined.to joined.from all route.inside (omega arith) route.back_from route.back_to joined.to_there joined.from_there joined.back

-- ---- a lane that leads across is one of these

pub lane_whole : (lane : ℕ) → lane ≡ 2 * (lane / 2) + lane % 2
lane_whole lane = omega arith

pub lane_side : (lane : ℕ) → lane % 2 < 2
lane_side lane = omega arith

pub lane_half : (lane n m : ℕ) → n ≡ 2 * m → lane < n → lane / 2 < m
lane_half lane n m is below = omega arith

-- channels within a part
within_one : (test : Bool) (one two : ℕ) → not test ≡ false → (two == one) ≡ test → two ≡ one
within_one true one two inner is = eqb-true two one is
within_one false one two inner is = absurd (true≢false inner)

pub inner_parts : (assigned : List ℕ) (channels : List ChannelState) (c : ℕ) → is_apart assigned channels c ≡ false → part_of assigned (get_or channels c absent_channel).to ≡ part_of assigned (get_or channels c absent_channel).from
inner_parts assigned channels c inner =
    within_one (is_part (part_of assigned (get_or channels c absent_channel).from) (part_of assigned (get_or channels c absent_channel).to)) (part_of assigned (get_or channels c absent_channel).from) (part_of assigned (get_or channels c absent_channel).to) inner refl

-- both ends of such a channel's lane stand at one place
end_part : (assigned : List ℕ) (channel : ChannelState) (side : ℕ) → side < 2 → part_of assigned channel.to ≡ part_of assigned channel.from → part_of assigned (end_on side channel) ≡ part_of assigned channel.from
end_part assigned channel zero low same = refl
end_part assigned channel (suc zero) low same = same
end_part assigned channel (suc (suc side)) low same = absurd (omega (arith, low))

far_low : (side : ℕ) → side < 2 → 1 - side < 2
far_low side low = omega (arith, low)

pub inner_ends : (world : WorldState) (assigned : List ℕ) (c side : ℕ) → side < 2 → is_apart assigned world.channels c ≡ false
    → ((layout_of world assigned).senders (2 * c + side) ≡ (part_of assigned (get_or world.channels c absent_channel).from, 2 * place_in assigned world.channels (part_of assigned (get_or world.channels c absent_channel).from) c + side))
    × ((layout_of world assigned).takers (2 * c + side) ≡ (part_of assigned (get_or world.channels c absent_channel).from, 2 * place_in assigned world.channels (part_of assigned (get_or world.channels c absent_channel).from) c + side))
inner_ends world assigned c side low inner =
    let channel : ChannelState = get_or world.channels c absent_channel in
    let same = inner_parts assigned world.channels c inner in
    (senders_at world assigned c side (part_of assigned channel.from) low (end_part assigned channel (1 - side) (far_low side low) same), takers_at world assigned c side (part_of assigned channel.from) low (end_part assigned channel side low same))

-- and of one that crosses at two
pub ends_apart : (world : WorldState) (assigned : List ℕ) (c side : ℕ) → is_apart assigned world.channels c ≡ true → side < 2 → (layout_of world assigned).senders (2 * c + side) ≡ (layout_of world assigned).takers (2 * c + side) → ⊥
ends_apart world assigned c zero passes low same =
    let channel : ChannelState = get_or world.channels c absent_channel in
    not_one (part_of assigned channel.from) (part_of assigned channel.to) passes
    (ap (λ (t : ℕ × ℕ). t.0) (sym (takers_at world assigned c 0 (part_of assigned channel.from) low refl) ∙ (sym same ∙ senders_at world assigned c 0 (part_of assigned channel.to) low refl)))
ends_apart world assigned c (suc zero) passes low same =
    let channel : ChannelState = get_or world.channels c absent_channel in
    not_one (part_of assigned channel.from) (part_of assigned channel.to) passes
    (ap (λ (t : ℕ × ℕ). t.0) (sym (senders_at world assigned c 1 (part_of assigned channel.from) low refl) ∙ (same ∙ takers_at world assigned c 1 (part_of assigned channel.to) low refl)))
ends_apart world assigned c (suc (suc side)) passes low same = absurd (omega (arith, low))

-- so it doesn't lead across
inner_not_apart : (world : WorldState) (assigned : List ℕ) (none : Part) (runs : List PartRun) (lane : ℕ) → AreLaid world assigned none runs → lane < length world.lanes → (layout_of world assigned).senders lane ≡ (layout_of world assigned).takers lane
    → IsApart (layout_of world assigned) (tables_at (parts_by none runs)) (states_of (parts_by none runs)) lane → ⊥
inner_not_apart world assigned none runs lane all inside same apart =
    let layout : Layout = layout_of world assigned in
    let here = (all.laid.takes lane inside).here in
    let away : length (parts_by none runs (layout.takers lane).0).engine.boxes ≤ leads_to (tables_of (parts_by none runs (layout.takers lane).0)) (layout.takers lane).1 =
    subst (λ (t : ℕ × ℕ). length (parts_by none runs t.0).engine.boxes ≤ leads_to (tables_of (parts_by none runs t.0)) t.1) same apart.away in
    omega (arith, here, away)

pub record IsAcross (world : WorldState) (assigned : List ℕ) (lane : ℕ) : Type 0 where
  pub i : ℕ
  pub crossing : Crossing
  pub there : slice_get (crossings_of assigned world.channels) i ≡ Some crossing
  pub route : IsRoute world assigned crossing
  pub is : (lane ≡ 2 * route.c + 1) ⊎ (lane ≡ 2 * route.c + 0)

by_side : (lane c side : ℕ) → lane ≡ 2 * c + side → side < 2 → (lane ≡ 2 * c + 1) ⊎ (lane ≡ 2 * c + 0)
by_side lane c zero is low = inr is
by_side lane c (suc zero) is low = inl is
by_side lane c (suc (suc side)) is low = absurd (omega (arith, low))

across_by : (test : Bool) (world : WorldState) (assigned : List ℕ) (none : Part) (runs : List PartRun) (lane : ℕ) → is_apart assigned world.channels (lane / 2) ≡ test → AreLaid world assigned none runs
    → LeadsAcross world (layout_of world assigned) (parts_by none runs) lane → IsAcross world assigned lane
unfolding routes_of
across_by true world assigned none runs lane passes all across =
    let inside : lane / 2 < length world.channels = lane_half lane (length world.lanes) (length world.channels) all.laid.each_lane across.0 in
    record {
      i = _;
      crossing = crossing_at assigned world.channels (lane / 2);
      there = has_crossing assigned world.channels (lane / 2) inside passes;
      route = routes_of world assigned (lane / 2) inside passes;
      is = by_side lane (lane / 2) (lane % 2) (lane_whole lane) (lane_side lane);
    }
across_by false world assigned none runs lane inner all across =
    let ends = inner_ends world assigned (lane / 2) (lane % 2) (lane_side lane) inner in
    let same : (layout_of world assigned).senders lane ≡ (layout_of world assigned).takers lane =
    subst (λ (n : ℕ). (layout_of world assigned).senders n ≡ (layout_of world assigned).takers n) (sym (lane_whole lane)) (ends.0 ∙ sym ends.1) in
    absurd (inner_not_apart world assigned none runs lane all across.0 same across.1)

pub across_of : (world : WorldState) (assigned : List ℕ) (none : Part) (runs : List PartRun) (lane : ℕ) → AreLaid world assigned none runs → LeadsAcross world (layout_of world assigned) (parts_by none runs) lane → IsAcross world assigned lane
across_of world assigned none runs lane all across = across_by (is_apart assigned world.channels (lane / 2)) world assigned none runs lane refl all across

-- ---- what later parts have of it

-- ports stay at their places
pub way_after : (layout : Layout) (parts parts_2 : ℕ → Part) (lane from to sender taker : ℕ) → IsWay layout parts lane from to sender taker → ((part : ℕ) → map rings_of (parts_2 part).ports.items ≡ map rings_of (parts part).ports.items)
    → ((part : ℕ) → sides (parts_2 part).ports.items ≡ sides (parts part).ports.items) → IsWay layout parts_2 lane from to sender taker
way_after layout parts parts_2 lane from to sender taker way rings starts =
    let one = port_after (parts from).ports.items (parts_2 from).ports.items sender way.out way.sends (rings from) (starts from) in
    let two = port_after (parts to).ports.items (parts_2 to).ports.items taker way.into way.takes (rings to) (starts to) in
    record {
      out = one.port_2;
      into = two.port_2;
      sends = one.there;
      takes = two.there;
      senders = way.senders ∙ ap (λ (b : Bool). (from, out_lane sender b)) (sym one.starts);
      takers = way.takers ∙ ap (λ (b : Bool). (to, into_lane taker b)) (sym two.starts);
    }

-- a lane that leads across after the parts ran did so before
pub across_before : (base : WorldState) (layout : Layout) (retries : Bool) (old new : ℕ → Part) → HaveRun retries old new → (lane : ℕ) → LeadsAcross base layout new lane → LeadsAcross base layout old lane
across_before base layout retries old new runs lane leads = (
  leads.0,
  record {
    away = subst (λ (n : ℕ). n ≤ leads_to (tables_of (old (layout.senders lane).0)) (layout.senders lane).1) (runs (layout.senders lane).0).run.spanned.work.box_count
        (subst (λ (w : WorldState). length (new (layout.senders lane).0).engine.boxes ≤ leads_to w (layout.senders lane).1) (tables_stay (layout.senders lane).0) leads.1.away);
    off = subst (λ (n : ℕ). n ≤ leads_from (tables_of (old (layout.takers lane).0)) (layout.takers lane).1) (runs (layout.takers lane).0).run.spanned.work.box_count
        (subst (λ (w : WorldState). length (new (layout.takers lane).0).engine.boxes ≤ leads_from w (layout.takers lane).1) (tables_stay (layout.takers lane).0) leads.1.off);
  },
)
  where
    tables_stay : (part : ℕ) → tables_of (new part) ≡ tables_of (old part)
    tables_stay part = ap (λ (channels : List ChannelState). record { boxes = []; channels = channels; lanes = [] }) (runs part).run.channels
