-- Both lanes of a channel that crosses are carried over.
use Rattle.std.proofs.Common.{◌≡◌, ◌≢◌, ◌/◌, ◌++◌, Bool, true, false, ℕ, List, [], slice_get, refl, ap, ap₂, sym, ◌∙◌, subst, arith}
use Rattle.mc_signal.specs.declared.Tagged.{Tagged}
use Rattle.mc_merge.specs.LaneLogs.{without_stamps}
use Rattle.mc_model.specs.Worlds.{ChannelState, WorldState}
use mathlib.Core.List.{IsPrefix}
use Rattle.mc_port.specs.Ends.{given, in_ring, known, left_in, out_ring, received}
use Rattle.mc_port.specs.declared.ends.InPort.{InPort}
use Rattle.mc_port.specs.declared.ends.OutPort.{OutPort}
use Rattle.mc_merge.specs.Account.{part_lane}
use Rattle.mc_part.specs.Carrying.{AllComeIn, AllGoOut, AreFor, CanCarry, CarriesAll, GoesOver, IsSameBut, lane_at, tunnel_count, waiting_at}
use Rattle.mc_part.specs.Parts.{state_of, tables_of}
use Rattle.mc_part.specs.Ports.{into_lane, out_lane}
use Rattle.mc_part.specs.declared.part.Part.{Part}
use Rattle.mc_part.specs.declared.port.Port.{Port}
use Rattle.mc_part.proofs.CarriedLanes.{one_there}
use Rattle.mc_divided.proofs.Lists.{get_other}
use Rattle.mc_divided.specs.Phasing.{IsAsBefore, IsLaneCarried, IsSameAt}

-- ---- lanes of ports

pub into_half : (port : ℕ) (starts : Bool) → into_lane port starts / 2 ≡ port
into_half port true = omega arith
into_half port false = omega arith

pub out_half : (port : ℕ) (starts : Bool) → out_lane port starts / 2 ≡ port
out_half port true = omega arith
out_half port false = omega arith

pub out_not_into : (port : ℕ) (starts : Bool) → out_lane port starts ≢ into_lane port starts
out_not_into port true same = absurd (omega (arith, same))
out_not_into port false same = absurd (omega (arith, same))

-- a lane of another channel is another lane
pub other_lane : (lane other port channel : ℕ) → lane / 2 ≡ channel → other / 2 ≡ port → port ≢ channel → other ≢ lane
other_lane lane other port channel one two apart same = apart (sym two ∙ (ap (λ (n : ℕ). n / 2) same ∙ one))

-- ---- what stays

pub as_before : (a : Part) → IsAsBefore a a
as_before a = record { boxes = refl; channels = refl; lane_count = refl; sides_are = refl; rings_are = refl; kept = refl }

pub as_before_on : (a b c : Part) → IsAsBefore a b → IsAsBefore b c → IsAsBefore a c
as_before_on a b c one two = record {
  boxes = two.boxes ∙ one.boxes;
  channels = two.channels ∙ one.channels;
  lane_count = two.lane_count ∙ one.lane_count;
  sides_are = two.sides_are ∙ one.sides_are;
  rings_are = two.rings_are ∙ one.rings_are;
  kept = two.kept ∙ ap (λ (p : Part). record p { engine = c.engine; ports = c.ports }) one.kept;
}

pub same_at : (a : Part) (port : ℕ) → IsSameAt a a port
same_at a port = record { port_is = refl; lanes = λ lane half. refl }

pub same_at_on : (a b c : Part) (port : ℕ) → IsSameAt a b port → IsSameAt b c port → IsSameAt a c port
same_at_on a b c port one two = record { port_is = two.port_is ∙ one.port_is; lanes = λ lane half. two.lanes lane half ∙ one.lanes lane half }

pub but_before : (a b : Part) (channel lane : ℕ) (port port_2 : Port) → IsSameBut a b channel lane port port_2 → IsAsBefore a b
but_before a b channel lane port port_2 same = record {
  boxes = same.boxes;
  channels = same.channels;
  lane_count = same.lane_count;
  sides_are = same.sides_are;
  rings_are = same.rings_are;
  kept = same.kept;
}

pub but_at : (a b : Part) (channel lane : ℕ) (port port_2 : Port) → IsSameBut a b channel lane port port_2 → lane / 2 ≡ channel → (other : ℕ) → other ≢ channel → IsSameAt a b other
but_at a b channel lane port port_2 same half other apart = record {
  port_is = ap (λ (l : List Port). slice_get l other) same.ports ∙ get_other a.ports.items channel other port_2 apart;
  lanes = λ lane_2 half_2. same.lanes lane_2 (other_lane lane lane_2 other channel half half_2 apart);
}

-- what was carried stays so while nothing changes there
pub carried_later : (from from_2 from_3 to to_2 to_3 : Part) (sender taker : ℕ) → IsLaneCarried from from_2 to to_2 sender taker → IsSameAt from_2 from_3 sender → IsSameAt to_2 to_3 taker → IsLaneCarried from from_3 to to_3 sender taker
carried_later from from_2 from_3 to to_2 to_3 sender taker carried same same_2 = record {
  out = carried.out;
  into = carried.into;
  out_2 = carried.out_2;
  into_2 = carried.into_2;
  sends = carried.sends;
  takes = carried.takes;
  sends_2 = same.port_is ∙ carried.sends_2;
  takes_2 = same_2.port_is ∙ carried.takes_2;
  left = carried.left;
  all = carried.all;
  knew = carried.knew;
  came = same_2.lanes (into_lane taker carried.into.starts_here) (into_half taker carried.into.starts_here) ∙ carried.came;
  empty = same.lanes (out_lane sender carried.out.starts_here) (out_half sender carried.out.starts_here) ∙ carried.empty;
  even = carried.even;
}

-- and so it was from before
pub carried_sooner : (from_0 from from_2 to_0 to to_2 : Part) (sender taker : ℕ) → IsSameAt from_0 from sender → IsSameAt to_0 to taker → IsLaneCarried from from_2 to to_2 sender taker → IsLaneCarried from_0 from_2 to_0 to_2 sender taker
carried_sooner from_0 from from_2 to_0 to to_2 sender taker same same_2 carried = record {
  out = carried.out;
  into = carried.into;
  out_2 = carried.out_2;
  into_2 = carried.into_2;
  sends = sym same.port_is ∙ carried.sends;
  takes = sym same_2.port_is ∙ carried.takes;
  sends_2 = carried.sends_2;
  takes_2 = carried.takes_2;
  left = carried.left;
  all = carried.all;
  knew = carried.knew;
  came = carried.came
      ∙ ap₂ (λ (l w : List Tagged). l ++ (without_stamps carried.left ++ w)) (same_2.lanes (into_lane taker carried.into.starts_here) (into_half taker carried.into.starts_here))
      (same.lanes (out_lane sender carried.out.starts_here) (out_half sender carried.out.starts_here));
  empty = carried.empty;
  even = carried.even;
}

-- ---- what can be carried

-- tables depend on channels alone
pub same_tables : (a b : Part) → b.engine.channels ≡ a.engine.channels → tables_of a ≡ tables_of b
same_tables a b same = ap (λ (channels : List ChannelState). record { boxes = []; channels = channels; lanes = [] }) (sym same)

pub can_still : (from from_2 to to_2 : Part) (sender taker : ℕ) → CanCarry from to sender taker → from_2.engine.channels ≡ from.engine.channels → to_2.engine.channels ≡ to.engine.channels
    → IsSameAt from from_2 sender → IsSameAt to to_2 taker → CanCarry from_2 to_2 sender taker
can_still from from_2 to to_2 sender taker can channels channels_2 same same_2 =
    let tables = same_tables from from_2 channels in
    let tables_2 = same_tables to to_2 channels_2 in
    record {
      out = can.out;
      into = can.into;
      sends = same.port_is ∙ can.sends;
      takes = same_2.port_is ∙ can.takes;
      pair = can.pair;
      sender_few = can.sender_few;
      taker_few = can.taker_few;
      one_count = ap (λ (w : WorldState). tunnel_count w sender) (sym tables) ∙ (can.one_count ∙ ap (λ (w : WorldState). tunnel_count w taker) tables_2);
      goes = subst (λ (w : WorldState). AllGoOut w sender can.out) tables can.goes;
      comes = subst (λ (w : WorldState). AllComeIn w taker can.into) tables_2 can.comes;
      left = subst (λ (w : WorldState). AreFor (tunnel_count w taker) (without_stamps (left_in can.out.to can.into.from))) tables_2 can.left;
      waiting = subst (λ (w : WorldState). AreFor (tunnel_count w taker) (waiting_at from_2 sender can.out)) tables_2
          (subst (λ (l : List Tagged). AreFor (tunnel_count (tables_of to) taker) l) (sym (same.lanes (out_lane sender can.out.starts_here) (out_half sender can.out.starts_here))) can.waiting);
    }

-- a lane the other way, once the first was carried over
pub can_back : (from from_2 to to_2 : Part) (sender taker : ℕ) (can : CanCarry from to sender taker) → GoesOver from to sender taker can from_2 to_2 → CanCarry to from taker sender → CanCarry to_2 from_2 taker sender
can_back from from_2 to to_2 sender taker can over back =
    let carries = over.carries in
    let out : Port = over.new.into in
    let into : Port = over.new.out in
    -- the ports are those of the first lane
    let was_out : back.out ≡ can.into = one_there to.ports.items taker back.out can.into back.sends can.takes in
    let was_into : back.into ≡ can.out = one_there from.ports.items sender back.into can.out back.takes can.sends in
    let out_is : out ≡ record can.into { from = out.from; to = out.to } = carries.to_same.port_is in
    let into_is : into ≡ record can.out { from = into.from; to = into.to } = carries.from_same.port_is in
    let to_is : back.out.to ≡ out.to = ap (λ (p : Port). p.to) was_out ∙ sym carries.into_to in
    let from_is : back.into.from ≡ into.from = ap (λ (p : Port). p.from) was_into ∙ sym carries.out_from in
    let tables = same_tables to to_2 carries.to_same.channels in
    let tables_2 = same_tables from from_2 carries.from_same.channels in
    let starts : out.starts_here ≡ back.out.starts_here = ap (λ (p : Port). p.starts_here) out_is ∙ ap (λ (p : Port). p.starts_here) (sym was_out) in
    let wait : waiting_at to_2 taker out ≡ waiting_at to taker back.out =
    carries.to_same.lanes (out_lane taker out.starts_here) (subst (λ (b : Bool). out_lane taker out.starts_here ≢ into_lane taker b) (ap (λ (p : Port). p.starts_here) out_is) (out_not_into taker out.starts_here))
    ∙ ap (λ (b : Bool). part_lane (state_of to) (out_lane taker b)) starts in
    record {
      out = out;
      into = into;
      sends = over.new.takes;
      takes = over.new.sends;
      pair = ap out_ring (sym to_is) ∙ (back.pair ∙ ap in_ring from_is);
      sender_few = back.sender_few;
      taker_few = back.taker_few;
      one_count = ap (λ (w : WorldState). tunnel_count w taker) (sym tables) ∙ (back.one_count ∙ ap (λ (w : WorldState). tunnel_count w sender) tables_2);
      goes = subst (λ (w : WorldState). AllGoOut w taker out) tables
          (subst (λ (p : Port). AllGoOut (tables_of to) taker p) (sym out_is) (subst (λ (p : Port). AllGoOut (tables_of to) taker (record p { from = out.from; to = out.to })) was_out (goes_with (tables_of to) taker back.out out.from out.to back.goes)));
      comes = subst (λ (w : WorldState). AllComeIn w sender into) tables_2
          (subst (λ (p : Port). AllComeIn (tables_of from) sender p) (sym into_is) (subst (λ (p : Port). AllComeIn (tables_of from) sender (record p { from = into.from; to = into.to })) was_into back.comes));
      left = subst (λ (w : WorldState). AreFor (tunnel_count w sender) (without_stamps (left_in out.to into.from))) tables_2
          (subst (λ (p : OutPort). AreFor (tunnel_count (tables_of from) sender) (without_stamps (left_in p into.from))) to_is
          (subst (λ (p : InPort). AreFor (tunnel_count (tables_of from) sender) (without_stamps (left_in back.out.to p))) from_is back.left));
      waiting = subst (λ (w : WorldState). AreFor (tunnel_count w sender) (waiting_at to_2 taker out)) tables_2
          (subst (λ (l : List Tagged). AreFor (tunnel_count (tables_of from) sender) l) (sym wait) back.waiting);
    }
  where
    goes_with : (tables : WorldState) (channel : ℕ) (port : Port) (from : InPort) (to : OutPort) → AllGoOut tables channel port → AllGoOut tables channel (record port { from = from; to = to })
    goes_with tables channel port from to goes = record { held = goes.held; alone = goes.alone }

-- ---- both

-- what two calls for both lanes come to
pub record HasBoth (from from_2 to to_2 : Part) (from_port to_port : ℕ) : Type 0 where
  pub there : IsLaneCarried from from_2 to to_2 from_port to_port
  pub back : IsLaneCarried to to_2 from from_2 to_port from_port
  pub from_same : IsAsBefore from from_2
  pub to_same : IsAsBefore to to_2
  pub from_others : (port : ℕ) → port ≢ from_port → IsSameAt from from_2 port
  pub to_others : (port : ℕ) → port ≢ to_port → IsSameAt to to_2 port

pub both_carried : (from from_1 from_2 to to_1 to_2 : Part) (s t : ℕ) → CarriesAll from from_1 to to_1 s t → CarriesAll to_1 to_2 from_1 from_2 t s → HasBoth from from_2 to to_2 s t
both_carried from from_1 from_2 to to_1 to_2 s t one two =
    let over = one.over in
    let over_2 = two.over in
    let c = over.carries in
    let c_2 = over_2.carries in
    -- the second call begins with the ports that the first one left
    let out_was : two.old.out ≡ over.new.into = one_there to_1.ports.items t two.old.out over.new.into two.old.sends over.new.takes in
    let into_was : two.old.into ≡ over.new.out = one_there from_1.ports.items s two.old.into over.new.out two.old.takes over.new.sends in
    let starts : two.old.out.starts_here ≡ one.old.into.starts_here = ap (λ (p : Port). p.starts_here) (out_was ∙ c.to_same.port_is) in
    let starts_2 : two.old.into.starts_here ≡ one.old.out.starts_here = ap (λ (p : Port). p.starts_here) (into_was ∙ c.from_same.port_is) in
    let second_out : two.old.out.to ≡ one.old.into.to = ap (λ (p : Port). p.to) out_was ∙ c.into_to in
    let second_into : two.old.into.from ≡ one.old.out.from = ap (λ (p : Port). p.from) into_was ∙ c.out_from in
    -- lanes that the other call leaves as they are
    let into_stays : lane_at to_2 t one.old.into ≡ lane_at to_1 t one.old.into =
    c_2.from_same.lanes (into_lane t one.old.into.starts_here) (subst (λ (b : Bool). into_lane t one.old.into.starts_here ≢ out_lane t b) (sym starts) (λ same. out_not_into t one.old.into.starts_here (sym same))) in
    let wait_stays : waiting_at from_2 s one.old.out ≡ waiting_at from_1 s one.old.out =
    c_2.to_same.lanes (out_lane s one.old.out.starts_here) (subst (λ (b : Bool). out_lane s one.old.out.starts_here ≢ into_lane s b) (sym starts_2) (out_not_into s one.old.out.starts_here)) in
    let back_into : lane_at from_1 s two.old.into ≡ lane_at from s one.old.out =
    ap (λ (b : Bool). part_lane (state_of from_1) (into_lane s b)) starts_2 ∙ c.from_same.lanes (into_lane s one.old.out.starts_here) (λ same. out_not_into s one.old.out.starts_here (sym same)) in
    let back_wait : waiting_at to_1 t two.old.out ≡ waiting_at to t one.old.into =
    ap (λ (b : Bool). part_lane (state_of to_1) (out_lane t b)) starts ∙ c.to_same.lanes (out_lane t one.old.into.starts_here) (out_not_into t one.old.into.starts_here) in
    record {
      there = record {
        out = one.old.out;
        into = one.old.into;
        out_2 = over_2.new.into;
        into_2 = over_2.new.out;
        sends = one.old.sends;
        takes = one.old.takes;
        sends_2 = over_2.new.takes;
        takes_2 = over_2.new.sends;
        left = one.left;
        all = one.all;
        knew = one.knew;
        came = into_stays ∙ one.came;
        empty = wait_stays ∙ one.empty;
        even = ap received (c_2.out_from ∙ ap (λ (p : Port). p.from) out_was) ∙ (one.even ∙ ap given (sym (c_2.into_to ∙ ap (λ (p : Port). p.to) into_was)));
      };
      back = record {
        out = one.old.into;
        into = one.old.out;
        out_2 = over_2.new.out;
        into_2 = over_2.new.into;
        sends = one.old.takes;
        takes = one.old.sends;
        sends_2 = over_2.new.sends;
        takes_2 = over_2.new.takes;
        left = two.left;
        all = ap (λ (p : InPort). received p ++ two.left) (sym second_into) ∙ (two.all ∙ ap given second_out);
        knew = subst (λ (p : InPort). IsPrefix (known p) two.left) second_into two.knew;
        came = ap (λ (b : Bool). part_lane (state_of from_2) (into_lane s b)) (sym starts_2)
            ∙ (two.came ∙ ap₂ (λ (l w : List Tagged). l ++ (without_stamps two.left ++ w)) back_into back_wait);
        empty = ap (λ (b : Bool). part_lane (state_of to_2) (out_lane t b)) (sym starts) ∙ two.empty;
        even = two.even;
      };
      from_same = as_before_on from from_1 from_2 (but_before from from_1 s _ one.old.out over.new.out c.from_same) (but_before from_1 from_2 s _ two.old.into over_2.new.into c_2.to_same);
      to_same = as_before_on to to_1 to_2 (but_before to to_1 t _ one.old.into over.new.into c.to_same) (but_before to_1 to_2 t _ two.old.out over_2.new.out c_2.from_same);
      from_others = λ port apart.
          same_at_on from from_1 from_2 port (but_at from from_1 s (out_lane s one.old.out.starts_here) one.old.out over.new.out c.from_same (out_half s one.old.out.starts_here) port apart)
          (but_at from_1 from_2 s (into_lane s two.old.into.starts_here) two.old.into over_2.new.into c_2.to_same (into_half s two.old.into.starts_here) port apart);
      to_others = λ port apart.
          same_at_on to to_1 to_2 port (but_at to to_1 t (into_lane t one.old.into.starts_here) one.old.into over.new.into c.to_same (into_half t one.old.into.starts_here) port apart)
          (but_at to_1 to_2 t (out_lane t two.old.out.starts_here) two.old.out over_2.new.out c_2.from_same (out_half t two.old.out.starts_here) port apart);
    }
