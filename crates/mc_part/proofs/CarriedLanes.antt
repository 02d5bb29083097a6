-- What is carried over, step by step.
use Rattle.std.proofs.Common.{Bool, true, false, OnErr, Result, Ok, Err, IsTrue, ◌≡◌, ◌<◌, ℕ, suc, Option, Some, None, List, [], ◌∷◌, ◌++◌, append_assoc, drop, length, map, get_or, slice_get, refl, ap, sym, ◌∙◌, subst, arith}
use Rattle.std.specs.Option.{is_some, option_and_then}
use mathlib.Core.List.{IsPrefix}
use Rattle.std.specs.Vec.{with_item}
use Rattle.std.proofs.Math.ListN.{set}
use Rattle.std.proofs.Math.Seq.{drop-append_seam, drop-length, map-set_same}
use Rattle.std.proofs.lemmas.Grind.{common_steps}
use Rattle.std.proofs.lemmas.List.{append-nil, get_or-set_other, get_or-set_same, length-set, set-get_or, set-set}
use Rattle.std.proofs.lemmas.Option.{get_or_from_slice_get, slice_get-get_or, slice_get_within}
use Rattle.mc_signal.specs.declared.Tagged.{Tagged}
use Rattle.mc_merge.specs.LaneLogs.{without_stamps}
use Rattle.mc_model.specs.Worlds.{ChannelState, WorldState, front, front_for, lane_of, place, tunnel_of}
use Rattle.mc_port.specs.Ends.{RingName, given, in_ring, known, left_in, out_ring, received, without_stamp}
use Rattle.mc_port.specs.declared.ends.InPort.{InPort}
use Rattle.mc_port.specs.declared.ends.OutPort.{OutPort}
use Rattle.mc_port.specs.declared.stamped.Stamped.{Stamped}
use Rattle.mc_merge.specs.Account.{part_lane}
use Rattle.mc_world.specs.Pumping.{IsOutgoing, is_slot_at, with_last, without_first}
use Rattle.mc_world.specs.Waiting.{take_waits}
use Rattle.mc_world.specs.declared.network.engine.Outgoing.{Outgoing}
use Rattle.mc_part.specs.Carrying.{AllComeIn, AllGoOut, AreFor, CanCarry, Carries, CarriesAll, GoesOver, HasNoneLeft, HoldsAt, HasNoneWaiting, IsSameBut, Knew, LosesNothing, lane_at, left_between, left_count, tunnel_count, under_way, waiting_at, waiting_before, waiting_by}
use Rattle.mc_part.specs.Parts.{state_of, tables_of}
use Rattle.mc_part.specs.Ports.{entry_slot, into_lane, out_lane, rings_of, sides}
use Rattle.mc_part.specs.declared.part.Part.{Part}
use Rattle.mc_part.specs.declared.port.Port.{Port}
use Rattle.mc_part.proofs.PortLanes.{port_read}

-- ---- a list in which one port has changed

pub set_there : {A : Type 0} (items : List A) (k : ℕ) (old new : A) → slice_get items k ≡ Some old → slice_get (set items k new) k ≡ Some new
set_there items k old new there =
    let below = slice_get_within items k old there in
    slice_get-get_or (set items k new) k new (omega (arith, below, length-set items k new)) ∙ ap (λ x. Some x) (get_or-set_same items k new new below)

set_read : {A : Type 0} (items : List A) (k : ℕ) (old : A) → slice_get items k ≡ Some old → items ≡ set items k old
set_read {A = A} items k old there = sym (set-get_or items k old) ∙ ap (λ (x : A). set items k x) (get_or_from_slice_get items k old old there)

some_is : {A : Type 0} (a b : A) → Some a ≡ Some b → a ≡ b
some_is a b is = cc

pub one_there : {A : Type 0} (items : List A) (k : ℕ) (a b : A) → slice_get items k ≡ Some a → slice_get items k ≡ Some b → a ≡ b
one_there items k a b p q = some_is a b (sym p ∙ q)

-- ---- what stays the same

sides_stay : (a : List Port) (channel : ℕ) (port port_2 : Port) → slice_get a channel ≡ Some port → port_2 ≡ record port { from = port_2.from; to = port_2.to } → sides (set a channel port_2) ≡ sides a
sides_stay a channel port port_2 there is =
    map-set_same (λ (p : Port). p.starts_here) a channel port_2 port (ap (λ (p : Port). p.starts_here) is ∙ ap (λ (p : Port). p.starts_here) (sym (get_or_from_slice_get a channel port port there)))

rings_stay : (a : List Port) (channel : ℕ) (port port_2 : Port) → slice_get a channel ≡ Some port → port_2 ≡ record port { from = port_2.from; to = port_2.to } → in_ring port_2.from ≡ in_ring port.from → out_ring port_2.to ≡ out_ring port.to → map rings_of (set a channel port_2) ≡ map rings_of a
rings_stay a channel port port_2 there is ring ring_2 =
    let same : rings_of port_2 ≡ rings_of port = ap (λ (r : RingName). ((r, out_ring port_2.to), (port_2.holder, port_2.first))) ring
    ∙ (ap (λ (r : RingName). ((in_ring port.from, r), (port_2.holder, port_2.first))) ring_2 ∙ ap (λ (p : Port). ((in_ring port.from, out_ring port.to), (p.holder, p.first))) is) in
    map-set_same rings_of a channel port_2 port (same ∙ ap rings_of (sym (get_or_from_slice_get a channel port port there)))

pub port_only : (a : Part) (channel lane : ℕ) (port port_2 : Port) → slice_get a.ports.items channel ≡ Some port → port_2 ≡ record port { from = port_2.from; to = port_2.to } → in_ring port_2.from ≡ in_ring port.from → out_ring port_2.to ≡ out_ring port.to
    → IsSameBut a (record a { ports = with_item a.ports channel port_2 }) channel lane port port_2
port_only a channel lane port port_2 there is ring ring_2 = record {
  ports = refl;
  sides_are = sides_stay a.ports.items channel port port_2 there is;
  rings_are = rings_stay a.ports.items channel port port_2 there is ring ring_2;
  port_is = is;
  in_ring_is = ring;
  out_ring_is = ring_2;
  boxes = refl;
  channels = refl;
  lane_count = refl;
  lanes = λ other apart. refl;
  kept = refl;
}

pub lane_too : (a b : Part) (channel lane : ℕ) (items : List Tagged) (port port_2 : Port) → slice_get a.ports.items channel ≡ Some port → b.ports.items ≡ set a.ports.items channel port_2 → port_2 ≡ record port { from = port_2.from; to = port_2.to } → in_ring port_2.from ≡ in_ring port.from
    → out_ring port_2.to ≡ out_ring port.to → b.engine ≡ record a.engine { lanes = set a.engine.lanes lane items } → b ≡ record a { engine = b.engine; ports = b.ports } → IsSameBut a b channel lane port port_2
lane_too a b channel lane items port port_2 there ports is ring ring_2 engine kept =
    let lanes : b.engine.lanes ≡ set a.engine.lanes lane items = ap (λ (w : WorldState). w.lanes) engine in
    record {
      ports = ports;
      sides_are = ap (λ (l : List Port). sides l) ports ∙ sides_stay a.ports.items channel port port_2 there is;
      rings_are = ap (λ (l : List Port). map rings_of l) ports ∙ rings_stay a.ports.items channel port port_2 there is ring ring_2;
      port_is = is;
      in_ring_is = ring;
      out_ring_is = ring_2;
      boxes = ap (λ (w : WorldState). w.boxes) engine;
      channels = ap (λ (w : WorldState). w.channels) engine;
      lane_count = ap (λ (l : List (List Tagged)). length l) lanes ∙ length-set a.engine.lanes lane items;
      lanes = λ other apart. ap (λ (l : List (List Tagged)). get_or l other []) lanes ∙ get_or-set_other a.engine.lanes lane other items [] apart;
      kept = kept;
    }

-- ---- what is under way

pub item_kept : (lane lane_2 : List Tagged) (left left_2 : List Stamped) (wait wait_2 : List Tagged) (item : Stamped) → lane_2 ≡ lane ++ without_stamp item ∷ [] → left ≡ item ∷ left_2 → wait_2 ≡ wait
    → lane_2 ++ (without_stamps left_2 ++ wait_2) ≡ lane ++ (without_stamps left ++ wait)
item_kept lane lane_2 left left_2 wait wait_2 item came is same =
    ap (λ (l : List Tagged). l ++ (without_stamps left_2 ++ wait_2)) came
    ∙ (append_assoc lane (without_stamp item ∷ []) (without_stamps left_2 ++ wait_2)
    ∙ (ap (λ (l : List Tagged). lane ++ (without_stamps (item ∷ left_2) ++ l)) same
    ∙ ap (λ (l : List Stamped). lane ++ (without_stamps l ++ wait)) (sym is)))

pub signal_kept : (lane lane_2 : List Tagged) (left left_2 : List Stamped) (wait wait_2 : List Tagged) (tagged : Tagged) → lane_2 ≡ lane ++ tagged ∷ [] → left ≡ [] → left_2 ≡ [] → wait ≡ tagged ∷ wait_2
    → lane_2 ++ (without_stamps left_2 ++ wait_2) ≡ lane ++ (without_stamps left ++ wait)
signal_kept lane lane_2 left left_2 wait wait_2 tagged came none none_2 is =
    ap (λ (l : List Tagged). l ++ (without_stamps left_2 ++ wait_2)) came
    ∙ (ap (λ (l : List Stamped). (lane ++ tagged ∷ []) ++ (without_stamps l ++ wait_2)) none_2
    ∙ (append_assoc lane (tagged ∷ []) wait_2
    ∙ (ap (λ (l : List Tagged). lane ++ l) (sym is)
    ∙ ap (λ (l : List Stamped). lane ++ (without_stamps l ++ wait)) (sym none))))

-- what is left after one item
pub left_after : (before before_2 all all_2 left : List Stamped) (item : Stamped) → before ++ item ∷ left ≡ all → before_2 ≡ before ++ item ∷ [] → all_2 ≡ all → drop (length before_2) all_2 ≡ left
left_after before before_2 all all_2 left item is more same =
    ap (λ (l : List Stamped). drop (length before_2) l) (same ∙ (sym is ∙ (sym (append_assoc before (item ∷ []) left) ∙ ap (λ (l : List Stamped). l ++ left) (sym more))))
    ∙ drop-append_seam before_2 left

pub left_same : (before before_2 all all_2 : List Stamped) → before_2 ≡ before → all_2 ≡ all → drop (length before_2) all_2 ≡ drop (length before) all
left_same before before_2 all all_2 same same_2 = ap (λ (l : List Stamped). drop (length l) all_2) same ∙ ap (λ (l : List Stamped). drop (length before) l) same_2

-- none is left where all was received
pub none_left : (before all : List Stamped) → before ≡ all → drop (length before) all ≡ []
none_left before all same = ap (λ (l : List Stamped). drop (length l) all) same ∙ drop-length all

-- the first of what is left, and the rest
pub first_is : (left : List Stamped) (item : Stamped) → slice_get left 0 ≡ Some item → left ≡ item ∷ drop 1 left
first_is [] item is = absurd (cc)
first_is (first ∷ left) item is = ap (λ (s : Stamped). s ∷ left) (some_is first item is)

pub none_first : (left : List Stamped) → slice_get left 0 ≡ None → left ≡ []
none_first [] is = refl
none_first (first ∷ left) is = absurd (cc)

-- ---- what can be carried on

pub record Goes (from from_2 to to_2 : Part) (sender taker : ℕ) (old : CanCarry from to sender taker) (out_2 into_2 : Port) : Type 0 where
  pub items : List Stamped
  pub from_same : IsSameBut from from_2 sender (out_lane sender old.out.starts_here) old.out out_2
  pub to_same : IsSameBut to to_2 taker (into_lane taker old.into.starts_here) old.into into_2
  pub given_is : given out_2.to ≡ given old.out.to
  pub received_is : received into_2.from ≡ received old.into.from ++ items
  pub left_is : left_in old.out.to old.into.from ≡ items ++ left_in out_2.to into_2.from
  pub out_from : out_2.from ≡ old.out.from
  pub into_to : into_2.to ≡ old.into.to
  pub left : AreFor (tunnel_count (tables_of to) taker) (without_stamps (left_in out_2.to into_2.from))
  pub waiting : AreFor (tunnel_count (tables_of to) taker) (waiting_at from_2 sender out_2)
  pub kept : lane_at to_2 taker into_2 ++ (without_stamps (left_in out_2.to into_2.from) ++ waiting_at from_2 sender out_2) ≡ under_way from to sender taker old

tables_same : (a b : Part) → b.engine.channels ≡ a.engine.channels → tables_of a ≡ tables_of b
tables_same a b same = ap (λ (channels : List ChannelState). let w : WorldState = record { boxes = []; channels = channels; lanes = [] } in w) (sym same)

goes_still : (tables : WorldState) (channel : ℕ) (port port_2 : Port) → port_2 ≡ record port { from = port_2.from; to = port_2.to } → AllGoOut tables channel port → AllGoOut tables channel port_2
goes_still tables channel port port_2 is all = subst (λ (p : Port). AllGoOut tables channel p) (sym is) (record { held = all.held; alone = all.alone })

comes_still : (tables : WorldState) (channel : ℕ) (port port_2 : Port) → port_2 ≡ record port { from = port_2.from; to = port_2.to } → AllComeIn tables channel port → AllComeIn tables channel port_2
comes_still tables channel port port_2 is all = subst (λ (p : Port). AllComeIn tables channel p) (sym is) all

pub over : (from from_2 to to_2 : Part) (sender taker : ℕ) (old : CanCarry from to sender taker) (out_2 into_2 : Port) → Goes from from_2 to to_2 sender taker old out_2 into_2 → GoesOver from to sender taker old from_2 to_2
over from from_2 to to_2 sender taker old out_2 into_2 goes =
    let tables : tables_of from ≡ tables_of from_2 = tables_same from from_2 goes.from_same.channels in
    let tables_2 : tables_of to ≡ tables_of to_2 = tables_same to to_2 goes.to_same.channels in
    let count : tunnel_count (tables_of to) taker ≡ tunnel_count (tables_of to_2) taker = ap (λ (w : WorldState). tunnel_count w taker) tables_2 in
    record {
      new = record {
        out = out_2;
        into = into_2;
        sends = ap (λ (l : List Port). slice_get l sender) goes.from_same.ports ∙ set_there from.ports.items sender old.out out_2 old.sends;
        takes = ap (λ (l : List Port). slice_get l taker) goes.to_same.ports ∙ set_there to.ports.items taker old.into into_2 old.takes;
        pair = goes.from_same.out_ring_is ∙ (old.pair ∙ sym goes.to_same.in_ring_is);
        sender_few = old.sender_few;
        taker_few = old.taker_few;
        one_count = ap (λ (w : WorldState). tunnel_count w sender) (sym tables) ∙ (old.one_count ∙ count);
        goes = goes_still (tables_of from_2) sender old.out out_2 goes.from_same.port_is (subst (λ (w : WorldState). AllGoOut w sender old.out) tables old.goes);
        comes = comes_still (tables_of to_2) taker old.into into_2 goes.to_same.port_is (subst (λ (w : WorldState). AllComeIn w taker old.into) tables_2 old.comes);
        left = subst (λ (n : ℕ). AreFor n (without_stamps (left_in out_2.to into_2.from))) count goes.left;
        waiting = subst (λ (n : ℕ). AreFor n (waiting_at from_2 sender out_2)) count goes.waiting;
      };
      carries = record {
        items = goes.items;
        from_same = goes.from_same;
        to_same = goes.to_same;
        given_is = goes.given_is;
        received_is = goes.received_is;
        left_is = goes.left_is;
        out_from = goes.out_from;
        into_to = goes.into_to;
        kept = goes.kept;
      };
    }

-- ---- the ports that were read

pub read_there : (ports : List Port) (k : ℕ) (port read : Port) → slice_get ports k ≡ Some port → read ≡ get_or ports k read → slice_get ports k ≡ Some read
read_there ports k port read there is = port_read ports k read (slice_get_within ports k port there) is

pub as_read : (from to : Part) (sender taker : ℕ) (can : CanCarry from to sender taker) (read read_2 : Port) (out : OutPort) (into : InPort) (engine : WorldState) → can.out ≡ read → can.into ≡ read_2
    → GoesOver from to sender taker can (record from { ports = with_item from.ports sender (record can.out { to = out }) }) (record to { engine = engine; ports = with_item to.ports taker (record can.into { from = into }) })
    → GoesOver from to sender taker can (record from { ports = with_item from.ports sender (record read { to = out }) }) (record to { engine = engine; ports = with_item to.ports taker (record read_2 { from = into }) })
as_read from to sender taker can read read_2 out into engine is is_2 goes =
    subst (λ (p : Port). GoesOver from to sender taker can (record from { ports = with_item from.ports sender (record read { to = out }) }) (record to { engine = engine; ports = with_item to.ports taker (record p { from = into }) })) is_2
    (subst (λ (p : Port). GoesOver from to sender taker can (record from { ports = with_item from.ports sender (record p { to = out }) }) (record to { engine = engine; ports = with_item to.ports taker (record can.into { from = into }) })) is goes)

-- what the taking end knew of
pub knew_at : (from to : Part) (sender taker : ℕ) (can : CanCarry from to sender taker) (read read_2 : Port) → read ≡ get_or from.ports.items sender read → read_2 ≡ get_or to.ports.items taker read_2
    → IsPrefix (known read_2.from) (left_in read.to read_2.from) → IsPrefix (known can.into.from) (left_in can.out.to can.into.from)
knew_at from to sender taker can read read_2 is is_2 knew =
    let same : can.out ≡ read = one_there from.ports.items sender can.out read can.sends (read_there from.ports.items sender can.out read can.sends is) in
    let same_2 : can.into ≡ read_2 = one_there to.ports.items taker can.into read_2 can.takes (read_there to.ports.items taker can.into read_2 can.takes is_2) in
    subst (λ (p : Port). IsPrefix (known p.from) (left_in can.out.to p.from)) (sym same_2) (subst (λ (p : Port). IsPrefix (known read_2.from) (left_in p.to read_2.from)) (sym same) knew)

-- ---- one item of the ring

-- nothing is taken
pub item_still : (from to : Part) (sender taker : ℕ) (can : CanCarry from to sender taker) (out : OutPort) (into : InPort) (engine : WorldState) → out_ring out ≡ out_ring can.out.to → in_ring into ≡ in_ring can.into.from
    → given out ≡ given can.out.to → received into ≡ received can.into.from → engine ≡ to.engine
    → GoesOver from to sender taker can (record from { ports = with_item from.ports sender (record can.out { to = out }) }) (record to { engine = engine; ports = with_item to.ports taker (record can.into { from = into }) })
item_still from to sender taker can out into engine ring ring_2 given_same received_same same =
    subst (λ (w : WorldState). GoesOver from to sender taker can (record from { ports = with_item from.ports sender (record can.out { to = out }) }) (record to { engine = w; ports = with_item to.ports taker (record can.into { from = into }) })) (sym same)
    (let from_2 : Part = record from { ports = with_item from.ports sender (record can.out { to = out }) } in
    let to_2 : Part = record to { ports = with_item to.ports taker (record can.into { from = into }) } in
    let left : left_in out into ≡ left_in can.out.to can.into.from = left_same (received can.into.from) (received into) (given can.out.to) (given out) received_same given_same in
    over from from_2 to to_2 sender taker can (record can.out { to = out }) (record can.into { from = into }) (record {
      items = [];
      from_same = port_only from sender (out_lane sender can.out.starts_here) can.out (record can.out { to = out }) can.sends refl refl ring;
      to_same = port_only to taker (into_lane taker can.into.starts_here) can.into (record can.into { from = into }) can.takes refl ring_2 refl;
      given_is = given_same;
      received_is = received_same ∙ sym (append-nil (received can.into.from));
      left_is = sym left;
      out_from = refl;
      into_to = refl;
      left = subst (λ (l : List Stamped). AreFor (tunnel_count (tables_of to) taker) (without_stamps l)) (sym left) can.left;
      waiting = can.waiting;
      kept = ap (λ (l : List Stamped). lane_at to taker can.into ++ (without_stamps l ++ waiting_at from sender can.out)) left;
    }))

pub item_taken : (from to : Part) (sender taker : ℕ) (can : CanCarry from to sender taker) (out : OutPort) (into : InPort) (engine : WorldState) (item : Stamped) → out_ring out ≡ out_ring can.out.to → in_ring into ≡ in_ring can.into.from
    → given out ≡ given can.out.to → received into ≡ received can.into.from ++ item ∷ [] → received can.into.from ++ left_in can.out.to can.into.from ≡ given can.out.to
    → slice_get (left_in can.out.to can.into.from) 0 ≡ Some item → engine ≡ with_last to.engine (into_lane taker can.into.starts_here) (without_stamp item) → into_lane taker can.into.starts_here < length to.engine.lanes
    → GoesOver from to sender taker can (record from { ports = with_item from.ports sender (record can.out { to = out }) }) (record to { engine = engine; ports = with_item to.ports taker (record can.into { from = into }) })
item_taken from to sender taker can out into engine item ring ring_2 given_same more all first put inside =
    let from_2 : Part = record from { ports = with_item from.ports sender (record can.out { to = out }) } in
    let to_2 : Part = record to { engine = engine; ports = with_item to.ports taker (record can.into { from = into }) } in
    let old : List Stamped = left_in can.out.to can.into.from in
    let lane : ℕ = into_lane taker can.into.starts_here in
    let is : old ≡ item ∷ drop 1 old = first_is old item first in
    let left : left_in out into ≡ drop 1 old = left_after (received can.into.from) (received into) (given can.out.to) (given out) (drop 1 old) item
    (ap (λ (l : List Stamped). received can.into.from ++ l) (sym is) ∙ all) more given_same in
    let came : lane_at to_2 taker can.into ≡ lane_at to taker can.into ++ without_stamp item ∷ [] =
    ap (λ (w : WorldState). get_or w.lanes lane []) put ∙ get_or-set_same to.engine.lanes lane (lane_at to taker can.into ++ without_stamp item ∷ []) [] inside in
    let for_all : AreFor (tunnel_count (tables_of to) taker) (without_stamps (item ∷ drop 1 old)) =
    subst (λ (l : List Stamped). AreFor (tunnel_count (tables_of to) taker) (without_stamps l)) is can.left in
    over from from_2 to to_2 sender taker can (record can.out { to = out }) (record can.into { from = into }) (record {
      items = item ∷ [];
      from_same = port_only from sender (out_lane sender can.out.starts_here) can.out (record can.out { to = out }) can.sends refl refl ring;
      to_same = lane_too to to_2 taker lane (lane_at to taker can.into ++ without_stamp item ∷ []) can.into (record can.into { from = into }) can.takes refl refl ring_2 refl put refl;
      given_is = given_same;
      received_is = more;
      left_is = is ∙ ap (λ (l : List Stamped). item ∷ l) (sym left);
      out_from = refl;
      into_to = refl;
      left = subst (λ (l : List Stamped). AreFor (tunnel_count (tables_of to) taker) (without_stamps l)) (sym left) for_all.1;
      waiting = can.waiting;
      kept = item_kept (lane_at to taker can.into) (lane_at to_2 taker can.into) old (left_in out into) (waiting_at from sender can.out) (waiting_at from sender can.out) item came
          (is ∙ ap (λ (l : List Stamped). item ∷ l) (sym left)) refl;
    })

pub none_left_between : (from to : Part) (sender taker : ℕ) (out into : Port) → slice_get from.ports.items sender ≡ Some out → slice_get to.ports.items taker ≡ Some into → received into.from ≡ given out.to → HasNoneLeft from to sender taker
none_left_between from to sender taker out into sends takes same can =
    ap (λ (p : Port). received p.from) (one_there to.ports.items taker can.into into can.takes takes)
    ∙ (same ∙ ap (λ (p : Port). given p.to) (one_there from.ports.items sender out can.out sends can.sends))

pub count_is : (from to : Part) (sender taker : ℕ) (out into : Port) → slice_get from.ports.items sender ≡ Some out → slice_get to.ports.items taker ≡ Some into → left_count from to sender taker ≡ length (left_in out.to into.from)
count_is from to sender taker out into sends takes =
    ap (λ (o : Option Port). left_between o (slice_get to.ports.items taker)) sends ∙ ap (λ (o : Option Port). left_between (Some out) o) takes

pub fewer_left : (from from_2 to to_2 : Part) (sender taker : ℕ) (out out_2 into into_2 : Port) (item : Stamped) → slice_get from.ports.items sender ≡ Some out → slice_get to.ports.items taker ≡ Some into
    → from_2.ports.items ≡ set from.ports.items sender out_2 → to_2.ports.items ≡ set to.ports.items taker into_2 → given out_2.to ≡ given out.to → received into_2.from ≡ received into.from ++ item ∷ []
    → received into.from ++ left_in out.to into.from ≡ given out.to → slice_get (left_in out.to into.from) 0 ≡ Some item → left_count from_2 to_2 sender taker < left_count from to sender taker
fewer_left from from_2 to to_2 sender taker out out_2 into into_2 item sends takes ports ports_2 given_same more all first =
    let old : List Stamped = left_in out.to into.from in
    let is : old ≡ item ∷ drop 1 old = first_is old item first in
    let left : left_in out_2.to into_2.from ≡ drop 1 old = left_after (received into.from) (received into_2.from) (given out.to) (given out_2.to) (drop 1 old) item
    (ap (λ (l : List Stamped). received into.from ++ l) (sym is) ∙ all) more given_same in
    let before : left_count from to sender taker ≡ length (item ∷ drop 1 old) = count_is from to sender taker out into sends takes ∙ ap (λ (l : List Stamped). length l) is in
    let after : left_count from_2 to_2 sender taker ≡ length (drop 1 old) =
    count_is from_2 to_2 sender taker out_2 into_2 (ap (λ (l : List Port). slice_get l sender) ports ∙ set_there from.ports.items sender out out_2 sends)
    (ap (λ (l : List Port). slice_get l taker) ports_2 ∙ set_there to.ports.items taker into into_2 takes)
    ∙ ap (λ (l : List Stamped). length l) left in
    smaller (left_count from_2 to_2 sender taker) (left_count from to sender taker) (length (drop 1 old)) after before
  where
    smaller : (a b n : ℕ) → a ≡ n → b ≡ suc n → a < b
    smaller a b n p q = omega arith

-- the same of ports as they were read
pub taken_read : (from to : Part) (sender taker : ℕ) (can : CanCarry from to sender taker) (read read_2 : Port) → can.out ≡ read → can.into ≡ read_2 → (out : OutPort) (into : InPort) (engine : WorldState) (item : Stamped)
    → out_ring out ≡ out_ring read.to → in_ring into ≡ in_ring read_2.from → given out ≡ given read.to → received into ≡ received read_2.from ++ item ∷ [] → received read_2.from ++ left_in read.to read_2.from ≡ given read.to
    → slice_get (left_in read.to read_2.from) 0 ≡ Some item → engine ≡ with_last to.engine (into_lane taker read_2.starts_here) (without_stamp item) → into_lane taker read_2.starts_here < length to.engine.lanes
    → GoesOver from to sender taker can (record from { ports = with_item from.ports sender (record read { to = out }) }) (record to { engine = engine; ports = with_item to.ports taker (record read_2 { from = into }) })
taken_read from to sender taker can read read_2 is is_2 out into engine item ring ring_2 given_same more all first put inside =
    as_read from to sender taker can read read_2 out into engine is is_2
    (item_taken from to sender taker can out into engine item
    (ring ∙ ap (λ (p : Port). out_ring p.to) (sym is))
    (ring_2 ∙ ap (λ (p : Port). in_ring p.from) (sym is_2))
    (given_same ∙ ap (λ (p : Port). given p.to) (sym is))
    (more ∙ ap (λ (p : Port). received p.from ++ item ∷ []) (sym is_2))
    (subst (λ (p : Port). received can.into.from ++ left_in p.to can.into.from ≡ given p.to) (sym is) (subst (λ (p : Port). received p.from ++ left_in read.to p.from ≡ given read.to) (sym is_2) all))
    (subst (λ (p : Port). slice_get (left_in p.to can.into.from) 0 ≡ Some item) (sym is) (subst (λ (p : Port). slice_get (left_in read.to p.from) 0 ≡ Some item) (sym is_2) first))
    (put ∙ ap (λ (p : Port). with_last to.engine (into_lane taker p.starts_here) (without_stamp item)) (sym is_2))
    (subst (λ (p : Port). into_lane taker p.starts_here < length to.engine.lanes) (sym is_2) inside))

pub received_all : (before before_2 all all_2 left : List Stamped) → before ++ left ≡ all → left ≡ [] → before_2 ≡ before → all_2 ≡ all → before_2 ≡ all_2
received_all before before_2 all all_2 left is none same same_2 = same ∙ (sym (append-nil before) ∙ (ap (λ (l : List Stamped). before ++ l) (sym none) ∙ (is ∙ sym same_2)))

-- the first item that is left is for a tunnel that comes in
pub slot_at_read : (from to : Part) (sender taker : ℕ) (can : CanCarry from to sender taker) (read read_2 : Port) (item : Stamped) → can.out ≡ read → can.into ≡ read_2 → slice_get (left_in read.to read_2.from) 0 ≡ Some item
    → IsTrue (is_slot_at (tables_of to) (into_lane taker read_2.starts_here) item.tunnel (entry_slot read_2 item.tunnel))
slot_at_read from to sender taker can read read_2 item is is_2 first =
    let first_2 : slice_get (left_in can.out.to can.into.from) 0 ≡ Some item =
    subst (λ (p : Port). slice_get (left_in p.to can.into.from) 0 ≡ Some item) (sym is) (subst (λ (p : Port). slice_get (left_in read.to p.from) 0 ≡ Some item) (sym is_2) first) in
    let old : List Stamped = left_in can.out.to can.into.from in
    let for_all : AreFor (tunnel_count (tables_of to) taker) (without_stamps (item ∷ drop 1 old)) =
    subst (λ (l : List Stamped). AreFor (tunnel_count (tables_of to) taker) (without_stamps l)) (first_is old item first_2) can.left in
    subst (λ (p : Port). IsTrue (is_slot_at (tables_of to) (into_lane taker p.starts_here) item.tunnel (entry_slot p item.tunnel))) is_2 (can.comes item.tunnel for_all.0)

-- ---- one signal that waits

none_changed : (a : Part) (channel lane : ℕ) (port : Port) → slice_get a.ports.items channel ≡ Some port → IsSameBut a a channel lane port port
none_changed a channel lane port there = record {
  ports = set_read a.ports.items channel port there;
  sides_are = refl;
  rings_are = refl;
  port_is = refl;
  in_ring_is = refl;
  out_ring_is = refl;
  boxes = refl;
  channels = refl;
  lane_count = refl;
  lanes = λ other apart. refl;
  kept = refl;
}

stays_at : (from to : Part) (sender taker : ℕ) (can : CanCarry from to sender taker) → GoesOver from to sender taker can from to
stays_at from to sender taker can = over from from to to sender taker can can.out can.into (record {
  items = [];
  from_same = none_changed from sender (out_lane sender can.out.starts_here) can.out can.sends;
  to_same = none_changed to taker (into_lane taker can.into.starts_here) can.into can.takes;
  given_is = refl;
  received_is = sym (append-nil (received can.into.from));
  left_is = refl;
  out_from = refl;
  into_to = refl;
  left = can.left;
  waiting = can.waiting;
  kept = refl;
})

pub stays : (from to : Part) (sender taker : ℕ) (can : CanCarry from to sender taker) (engine : WorldState) → engine ≡ to.engine → GoesOver from to sender taker can from (record to { engine = engine })
stays from to sender taker can engine same = subst (λ (w : WorldState). GoesOver from to sender taker can from (record to { engine = w })) (sym same) (stays_at from to sender taker can)

pub signal_gone : (from to : Part) (sender taker : ℕ) (can : CanCarry from to sender taker) (engine engine_2 : WorldState) (tagged : Tagged) → received can.into.from ≡ given can.out.to
    → engine ≡ without_first from.engine (out_lane sender can.out.starts_here) → out_lane sender can.out.starts_here < length from.engine.lanes → waiting_at from sender can.out ≡ tagged ∷ drop 1 (waiting_at from sender can.out)
    → engine_2 ≡ with_last to.engine (into_lane taker can.into.starts_here) tagged → into_lane taker can.into.starts_here < length to.engine.lanes
    → GoesOver from to sender taker can (record from { engine = engine }) (record to { engine = engine_2 })
signal_gone from to sender taker can engine engine_2 tagged even pop inside first put inside_2 =
    let from_2 : Part = record from { engine = engine } in
    let to_2 : Part = record to { engine = engine_2 } in
    let lane : ℕ = into_lane taker can.into.starts_here in
    let lane_2 : ℕ = out_lane sender can.out.starts_here in
    let old : List Tagged = waiting_at from sender can.out in
    let came : lane_at to_2 taker can.into ≡ lane_at to taker can.into ++ tagged ∷ [] =
    ap (λ (w : WorldState). get_or w.lanes lane []) put ∙ get_or-set_same to.engine.lanes lane (lane_at to taker can.into ++ tagged ∷ []) [] inside_2 in
    let rest : waiting_at from_2 sender can.out ≡ drop 1 old =
    ap (λ (w : WorldState). get_or w.lanes lane_2 []) pop ∙ get_or-set_same from.engine.lanes lane_2 (drop 1 old) [] inside in
    let for_all : AreFor (tunnel_count (tables_of to) taker) (tagged ∷ drop 1 old) =
    subst (λ (l : List Tagged). AreFor (tunnel_count (tables_of to) taker) l) first can.waiting in
    let none : left_in can.out.to can.into.from ≡ [] = none_left (received can.into.from) (given can.out.to) even in
    over from from_2 to to_2 sender taker can can.out can.into (record {
      items = [];
      from_same = lane_too from from_2 sender lane_2 (drop 1 old) can.out can.out can.sends (set_read from.ports.items sender can.out can.sends) refl refl refl pop refl;
      to_same = lane_too to to_2 taker lane (lane_at to taker can.into ++ tagged ∷ []) can.into can.into can.takes (set_read to.ports.items taker can.into can.takes) refl refl refl put refl;
      given_is = refl;
      received_is = sym (append-nil (received can.into.from));
      left_is = refl;
      out_from = refl;
      into_to = refl;
      left = can.left;
      waiting = subst (λ (l : List Tagged). AreFor (tunnel_count (tables_of to) taker) l) (sym rest) for_all.1;
      kept = signal_kept (lane_at to taker can.into) (lane_at to_2 taker can.into) (left_in can.out.to can.into.from) (left_in can.out.to can.into.from) old (waiting_at from_2 sender can.out) tagged came none none
          (first ∙ ap (λ (l : List Tagged). tagged ∷ l) (sym rest));
    })

-- what waits at the place holder is first in the lane
pub out_is : (from : Part) (sender : ℕ) (port read : Port) (out : Outgoing) → AllGoOut (tables_of from) sender port → IsOutgoing from.engine out → (place from.engine out.slot).0 ≡ read.holder → port ≡ read → out.lane ≡ out_lane sender port.starts_here
out_is from sender port read out goes is home same = is.lane ∙ goes.alone out.slot is.here (home ∙ ap (λ (p : Port). p.holder) (sym same))

pub first_waits : (from : Part) (lane : ℕ) (out : Outgoing) → IsOutgoing from.engine out → out.lane ≡ lane
    → part_lane (state_of from) lane ≡ record { tunnel = out.tunnel; signal = out.signal } ∷ drop 1 (part_lane (state_of from) lane)
first_waits from lane out is same =
    subst (λ (n : ℕ). part_lane (state_of from) n ≡ record { tunnel = out.tunnel; signal = out.signal } ∷ drop 1 (part_lane (state_of from) n)) same is.first

pub waiting_is : (part : Part) (channel : ℕ) (port : Port) → slice_get part.ports.items channel ≡ Some port → waiting_before part channel ≡ length (waiting_at part channel port)
waiting_is part channel port there = ap (λ (o : Option Port). waiting_by part channel o) there

pub fewer_wait : (from : Part) (sender : ℕ) (port : Port) (engine : WorldState) (tagged : Tagged) → slice_get from.ports.items sender ≡ Some port → engine ≡ without_first from.engine (out_lane sender port.starts_here)
    → out_lane sender port.starts_here < length from.engine.lanes → waiting_at from sender port ≡ tagged ∷ drop 1 (waiting_at from sender port) → waiting_before (record from { engine = engine }) sender < waiting_before from sender
fewer_wait from sender port engine tagged there pop inside first =
    let from_2 : Part = record from { engine = engine } in
    let lane : ℕ = out_lane sender port.starts_here in
    let old : List Tagged = waiting_at from sender port in
    let rest : waiting_at from_2 sender port ≡ drop 1 old =
    ap (λ (w : WorldState). get_or w.lanes lane []) pop ∙ get_or-set_same from.engine.lanes lane (drop 1 old) [] inside in
    smaller (waiting_before from_2 sender) (waiting_before from sender) (length (drop 1 old)) (waiting_is from_2 sender port there ∙ ap (λ (l : List Tagged). length l) rest)
    (waiting_is from sender port there ∙ ap (λ (l : List Tagged). length l) first)
  where
    smaller : (a b n : ℕ) → a ≡ n → b ≡ suc n → a < b
    smaller a b n p q = omega arith

-- where the place holder can take nothing, nothing waits
leads_there : (tables : WorldState) (lane tunnel slot : ℕ) → IsTrue (is_slot_at tables lane tunnel slot) → (lane_of tables slot ≡ lane) × ((tunnel_of tables slot).within ≡ tunnel)
leads_there tables lane tunnel slot is = (grind (arith, common_steps), grind (arith, common_steps))

front_there : (tunnel : ℕ) (tagged : Tagged) (rest : List Tagged) → tunnel ≡ tagged.tunnel → is_some (front_for tunnel (tagged ∷ rest)) ≡ true
front_there tunnel tagged rest same = grind (arith, common_steps)

pub none_wait : (from : Part) (sender n : ℕ) (port : Port) → n ≡ tunnel_count (tables_of from) sender → AllGoOut (tables_of from) sender port → AreFor n (waiting_at from sender port)
    → ((local : ℕ) → take_waits from.engine port.holder local ≡ false) → waiting_at from sender port ≡ []
none_wait from sender n port count goes for_all none = by_list (waiting_at from sender port) refl
  where
    by_list : (l : List Tagged) → waiting_at from sender port ≡ l → waiting_at from sender port ≡ []
    by_list [] is = is
    by_list (tagged ∷ rest) is =
        let below : tagged.tunnel < tunnel_count (tables_of from) sender = subst (λ (k : ℕ). tagged.tunnel < k) count (subst (λ (l : List Tagged). AreFor n l) is for_all).0 in
        let held : HoldsAt (tables_of from) port.holder (out_lane sender port.starts_here) tagged.tunnel = goes.held tagged.tunnel below in
        let leads : (lane_of from.engine held.slot ≡ out_lane sender port.starts_here) × ((tunnel_of from.engine held.slot).within ≡ tagged.tunnel) = leads_there (tables_of from) (out_lane sender port.starts_here) tagged.tunnel held.slot held.leads in
        let waits : take_waits from.engine port.holder held.local ≡ true =
        ap (λ (o : Option ℕ). is_some (option_and_then (front from.engine) o)) held.number
        ∙ (ap (λ (k : ℕ). is_some (front_for (tunnel_of from.engine held.slot).within (get_or from.engine.lanes k []))) leads.0
        ∙ (ap (λ (l : List Tagged). is_some (front_for (tunnel_of from.engine held.slot).within l)) is
        ∙ front_there (tunnel_of from.engine held.slot).within tagged rest leads.1)) in
        absurd (both (take_waits from.engine port.holder held.local) waits (none held.local))
      where
        both : (b : Bool) → b ≡ true → b ≡ false → ⊥
        both true p q = absurd (cc)
        both false p q = absurd (cc)

-- ---- one after the other

joined_same : (a b d : Part) (channel lane : ℕ) (port port_2 port_3 : Port) → IsSameBut a b channel lane port port_2 → IsSameBut b d channel lane port_2 port_3 → IsSameBut a d channel lane port port_3
joined_same a b d channel lane port port_2 port_3 one two = record {
  ports = two.ports ∙ (ap (λ (l : List Port). set l channel port_3) one.ports ∙ set-set a.ports.items channel port_2 port_3);
  sides_are = two.sides_are ∙ one.sides_are;
  rings_are = two.rings_are ∙ one.rings_are;
  port_is = two.port_is ∙ ap (λ (p : Port). let q : Port = record p { from = port_3.from; to = port_3.to } in q) one.port_is;
  in_ring_is = two.in_ring_is ∙ one.in_ring_is;
  out_ring_is = two.out_ring_is ∙ one.out_ring_is;
  boxes = two.boxes ∙ one.boxes;
  channels = two.channels ∙ one.channels;
  lane_count = two.lane_count ∙ one.lane_count;
  lanes = λ other apart. two.lanes other apart ∙ one.lanes other apart;
  kept = two.kept ∙ ap (λ (p : Part). let q : Part = record p { engine = d.engine; ports = d.ports } in q) one.kept;
}

starts_same : (port port_2 : Port) → port_2 ≡ record port { from = port_2.from; to = port_2.to } → port_2.starts_here ≡ port.starts_here
starts_same port port_2 is = ap (λ (p : Port). p.starts_here) is

pub joined : (from from_2 from_3 to to_2 to_3 : Part) (sender taker : ℕ) (can : CanCarry from to sender taker) (one : GoesOver from to sender taker can from_2 to_2) → GoesOver from_2 to_2 sender taker one.new from_3 to_3
    → GoesOver from to sender taker can from_3 to_3
joined from from_2 from_3 to to_2 to_3 sender taker can one two = record {
  new = two.new;
  carries = record {
    items = one.carries.items ++ two.carries.items;
    from_same = joined_same from from_2 from_3 sender (out_lane sender can.out.starts_here) can.out one.new.out two.new.out one.carries.from_same
        (subst (λ (s : Bool). IsSameBut from_2 from_3 sender (out_lane sender s) one.new.out two.new.out) (starts_same can.out one.new.out one.carries.from_same.port_is) two.carries.from_same);
    to_same = joined_same to to_2 to_3 taker (into_lane taker can.into.starts_here) can.into one.new.into two.new.into one.carries.to_same
        (subst (λ (s : Bool). IsSameBut to_2 to_3 taker (into_lane taker s) one.new.into two.new.into) (starts_same can.into one.new.into one.carries.to_same.port_is) two.carries.to_same);
    given_is = two.carries.given_is ∙ one.carries.given_is;
    received_is = two.carries.received_is ∙ (ap (λ (l : List Stamped). l ++ two.carries.items) one.carries.received_is ∙ append_assoc (received can.into.from) one.carries.items two.carries.items);
    left_is = one.carries.left_is ∙ (ap (λ (l : List Stamped). one.carries.items ++ l) two.carries.left_is
        ∙ sym (append_assoc one.carries.items two.carries.items (left_in two.new.out.to two.new.into.from)));
    out_from = two.carries.out_from ∙ one.carries.out_from;
    into_to = two.carries.into_to ∙ one.carries.into_to;
    kept = two.carries.kept ∙ one.carries.kept;
  };
}

pub loses_none : (from to : Part) (sender taker : ℕ) → CanCarry from to sender taker → LosesNothing from from to to sender taker
loses_none from to sender taker can = record { old = can; over = stays_at from to sender taker can }

pub loses_more : (from from_2 from_3 to to_2 to_3 : Part) (sender taker : ℕ) → LosesNothing from from_2 to to_2 sender taker → ((can : CanCarry from_2 to_2 sender taker) → GoesOver from_2 to_2 sender taker can from_3 to_3)
    → LosesNothing from from_3 to to_3 sender taker
loses_more from from_2 from_3 to to_2 to_3 sender taker so_far step = record { old = so_far.old; over = joined from from_2 from_3 to to_2 to_3 sender taker so_far.old so_far.over (step so_far.over.new) }

-- in the end all is carried over
pub all_over : (from from_2 to to_2 : Part) (sender taker : ℕ) → LosesNothing from from_2 to to_2 sender taker → Knew from to sender taker → HasNoneLeft from_2 to_2 sender taker → HasNoneWaiting from_2 to_2 sender taker → CarriesAll from from_2 to to_2 sender taker
all_over from from_2 to to_2 sender taker loses knew none none_2 =
    let old : CanCarry from to sender taker = loses.old in
    let new : CanCarry from_2 to_2 sender taker = loses.over.new in
    let carries : Carries from from_2 to to_2 sender taker old new = loses.over.carries in
    let left : List Stamped = left_in old.out.to old.into.from in
    let waiting : List Tagged = waiting_at from sender old.out in
    let all : received old.into.from ++ carries.items ≡ given old.out.to = sym carries.received_is ∙ (none new ∙ carries.given_is) in
    let items : left ≡ carries.items = ap (λ (l : List Stamped). drop (length (received old.into.from)) l) (sym all) ∙ drop-append_seam (received old.into.from) carries.items in
    let kept : lane_at to_2 taker new.into ++ (without_stamps (left_in new.out.to new.into.from) ++ waiting_at from_2 sender new.out) ≡ lane_at to taker old.into ++ (without_stamps left ++ waiting) = carries.kept in
    let end : lane_at to_2 taker new.into ≡ lane_at to taker old.into ++ (without_stamps left ++ waiting) =
    sym (append-nil (lane_at to_2 taker new.into))
    ∙ (ap (λ (l : List Tagged). lane_at to_2 taker new.into ++ l) (sym (none_2 new))
    ∙ (ap (λ (l : List Stamped). lane_at to_2 taker new.into ++ (without_stamps l ++ waiting_at from_2 sender new.out)) (sym (none_left (received new.into.from) (given new.out.to) (none new)))
    ∙ kept)) in
    record {
      old = old;
      over = loses.over;
      left = left;
      all = ap (λ (l : List Stamped). received old.into.from ++ l) items ∙ all;
      knew = knew old;
      came = ap (λ (s : Bool). part_lane (state_of to_2) (into_lane taker s)) (sym (starts_same old.into new.into carries.to_same.port_is)) ∙ end;
      empty = ap (λ (s : Bool). part_lane (state_of from_2) (out_lane sender s)) (sym (starts_same old.out new.out carries.from_same.port_is)) ∙ none_2 new;
      even = none new;
    }

pub on_err : {A B : Type 0} (result : Result A B) (P : Type 0) → P → OnErr result P
on_err (Ok value) P holds = tt
on_err (Err error) P holds = holds
