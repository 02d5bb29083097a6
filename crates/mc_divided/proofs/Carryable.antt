-- After the parts ran, what is left between two of them can be carried over.
use Rattle.std.proofs.Common.{◌≡◌, ◌≢◌, inl, inr, ◌<◌, ◌≤◌, ◌+◌, ◌-◌, ◌*◌, ◌/◌, ◌^◌, ◌++◌, Bool, ℕ, zero, suc, IsTrue, Some, Option, List, [], ◌∷◌, drop, length, min, slice_get, refl, ap, sym, ◌∙◌, subst, arith}
use Rattle.std.proofs.Math.Seq.{drop-append-add}
use Rattle.std.proofs.lemmas.List.{length-append}
use Rattle.mc_signal.specs.declared.Tagged.{Tagged}
use Rattle.mc_merge.specs.LaneLogs.{without_stamps}
use Rattle.mc_merge.specs.Lanes.{leads_to}
use Rattle.mc_model.specs.Worlds.{WorldState}
use Rattle.mc_port.specs.Ends.{given, received}
use Rattle.mc_port.specs.declared.stamped.Stamped.{Stamped}
use Rattle.mc_world.specs.Pumping.{is_slot_at}
use Rattle.mc_merge.specs.Account.{ComesFromHere, part_lane}
use Rattle.mc_merge.specs.Phases.{AreEmptied, Layout, SendsAt}
use Rattle.mc_part.specs.Divisions.{layout_of}
use Rattle.mc_part.specs.Carrying.{AllComeIn, AllGoOut, AreFor, CanCarry, FitsChannel, HoldsAt, tunnel_count}
use Rattle.mc_part.specs.Networks.{states_of, tables_at}
use Rattle.mc_part.specs.Parts.{Runs, state_of, tables_of}
use Rattle.mc_part.specs.Ports.{entry_slot, given_at, given_by, into_lane, out_lane, received_at, received_by}
use Rattle.mc_part.specs.declared.part.Part.{Part}
use Rattle.mc_part.specs.declared.part_run.PartRun.{PartRun}
use Rattle.mc_part.specs.declared.port.Port.{Port}
use Rattle.mc_part.proofs.TunnelsOut.{work_fits_channels}
use Rattle.mc_divided.specs.Networks.{AreJoined, IsJoined}
use Rattle.mc_divided.specs.Phasing.{IsCarryable}
use Rattle.mc_divided.specs.declared.network.Crossing.{Crossing}
use Rattle.mc_divided.proofs.CarriedLanes.{into_half, out_half, same_tables}
use Rattle.mc_divided.proofs.Crossings.{IsRoute}
use Rattle.mc_divided.proofs.Lists.{one_of}
use Rattle.mc_divided.proofs.Ways.{AreLaid, IsWay, IsPortAfter, lane_inside, own_given, own_received, port_after, way_back, way_there}
use Rattle.mc_divided.proofs.PartsBy.{part_is, parts_by}

-- ---- the ports stay as they are

pub goes_as : (tables : WorldState) (channel : ℕ) (p q : Port) → q.holder ≡ p.holder → q.starts_here ≡ p.starts_here → AllGoOut tables channel p → AllGoOut tables channel q
goes_as tables channel p q holder starts goes = record {
  held = λ tunnel below. subst (λ (h : ℕ). HoldsAt tables h (out_lane channel q.starts_here) tunnel) (sym holder) (subst (λ (b : Bool). HoldsAt tables p.holder (out_lane channel b) tunnel) (sym starts) (goes.held tunnel below));
  alone = λ slot inside is. goes.alone slot inside (is ∙ holder) ∙ ap (λ (b : Bool). out_lane channel b) (sym starts);
}

pub comes_as : (tables : WorldState) (channel : ℕ) (p q : Port) → q.first ≡ p.first → q.starts_here ≡ p.starts_here → AllComeIn tables channel p → AllComeIn tables channel q
comes_as tables channel p q first starts comes tunnel below =
    subst (λ (b : Bool). IsTrue (is_slot_at tables (into_lane channel b) tunnel (entry_slot q tunnel))) (sym starts)
    (subst (λ (f : ℕ). IsTrue (is_slot_at tables (into_lane channel p.starts_here) tunnel (min (f + 2 * tunnel) (2 ^ 32 - 1)))) (sym first) (comes tunnel below))

-- ---- what is left

all_drop : (n k : ℕ) (items : List Stamped) → AreFor n (without_stamps items) → AreFor n (without_stamps (drop k items))
all_drop n zero items all = all
all_drop n (suc k) [] all = all
all_drop n (suc k) (item ∷ items) all = all_drop n k items all.1

dropped : (n : ℕ) (r g gave put : List Stamped) → r ≡ g → AreFor n (without_stamps put) → AreFor n (without_stamps (drop (length (r ++ gave)) (g ++ put)))
dropped n r g gave put even all =
    let long : length (r ++ gave) ≡ length g + length gave = length-append r gave ∙ ap (λ (l : List Stamped). length l + length gave) even in
    let is : drop (length (r ++ gave)) (g ++ put) ≡ drop (length gave) put = ap (λ (m : ℕ). drop m (g ++ put)) long ∙ drop-append-add g put (length gave) in
    subst (λ (l : List Stamped). AreFor n (without_stamps l)) (sym is) (all_drop n (length gave) put all)

-- ---- a lane from part to part

-- a lane that goes out of a part, with nothing before its ring
pub record IsOpen (part : Part) (lane : ℕ) : Type 0 where
  pub inside : lane < length part.engine.lanes
  pub here : ComesFromHere (tables_of part) (state_of part) lane
  pub away : length part.engine.boxes ≤ leads_to (tables_of part) lane
  pub empty : part_lane (state_of part) lane ≡ []

pub given_by_port : (ports : List Port) (k : ℕ) (port : Port) (starts : Bool) → slice_get ports k ≡ Some port → port.starts_here ≡ starts → given_at ports (out_lane k starts) ≡ given port.to
given_by_port ports k port starts there is =
    ap (λ (b : Bool). given_at ports (out_lane k b)) (sym is)
    ∙ (ap (λ (o : Option Port). given_by o (out_lane k port.starts_here)) (ap (λ (n : ℕ). slice_get ports n) (out_half k port.starts_here) ∙ there) ∙ own_given k port)

pub received_by_port : (ports : List Port) (k : ℕ) (port : Port) (starts : Bool) → slice_get ports k ≡ Some port → port.starts_here ≡ starts → received_at ports (into_lane k starts) ≡ received port.from
received_by_port ports k port starts there is =
    ap (λ (b : Bool). received_at ports (into_lane k b)) (sym is)
    ∙ (ap (λ (o : Option Port). received_by o (into_lane k port.starts_here)) (ap (λ (n : ℕ). slice_get ports n) (into_half k port.starts_here) ∙ there) ∙ own_received k port)

pub can_after : (a b a_2 b_2 : Part) (sender taker : ℕ) (retries retries_2 : ℕ → ℕ → ℕ) (joined : AreJoined a b sender taker) → Runs a a_2 retries → Runs b b_2 retries_2 → IsOpen a (out_lane sender joined.out.starts_here) → CanCarry a_2 b_2 sender taker
can_after a b a_2 b_2 sender taker retries retries_2 joined runs runs_2 opens =
    let one : IsPortAfter a_2.ports.items sender joined.out = port_after a.ports.items a_2.ports.items sender joined.out joined.sends runs.run.rings runs.run.sides in
    let two : IsPortAfter b_2.ports.items taker joined.into = port_after b.ports.items b_2.ports.items taker joined.into joined.takes runs_2.run.rings runs_2.run.sides in
    let out : Port = one.port_2 in
    let into : Port = two.port_2 in
    let lane : ℕ = out_lane sender joined.out.starts_here in
    let lane_2 : ℕ = into_lane taker joined.into.starts_here in
    let tables = same_tables a a_2 runs.run.channels in
    let tables_2 = same_tables b b_2 runs_2.run.channels in
    let count : tunnel_count (tables_of a) sender ≡ tunnel_count (tables_of b_2) taker = joined.one_count ∙ ap (λ (w : WorldState). tunnel_count w taker) tables_2 in
    let half : lane / 2 ≡ sender = out_half sender joined.out.starts_here in
    let began : AreFor (tunnel_count (tables_of a) (lane / 2)) (part_lane (state_of a) lane) = subst (λ (l : List Tagged). AreFor (tunnel_count (tables_of a) (lane / 2)) l) (sym opens.empty) tt in
    let fits : FitsChannel (tables_of a) (state_of a_2) runs.put lane =
    work_fits_channels (tables_of a) (state_of a) (state_of a_2) runs.run.log runs.gave runs.put lane runs.run.spanned.work opens.inside opens.here opens.away began in
    let went : AreFor (tunnel_count (tables_of b_2) taker) (without_stamps (runs.put lane)) =
    subst (λ (n : ℕ). AreFor n (without_stamps (runs.put lane))) (ap (λ (k : ℕ). tunnel_count (tables_of a) k) half ∙ count) fits.went in
    let waits : AreFor (tunnel_count (tables_of b_2) taker) (part_lane (state_of a_2) lane) =
    subst (λ (n : ℕ). AreFor n (part_lane (state_of a_2) lane)) (ap (λ (k : ℕ). tunnel_count (tables_of a) k) half ∙ count) fits.waits in
    let given_is : given out.to ≡ given joined.out.to ++ runs.put lane =
    sym (given_by_port a_2.ports.items sender out joined.out.starts_here one.there one.starts)
    ∙ (runs.run.spanned.given lane ∙ ap (λ (l : List Stamped). l ++ runs.put lane) (given_by_port a.ports.items sender joined.out joined.out.starts_here joined.sends refl)) in
    let received_is : received into.from ≡ received joined.into.from ++ runs_2.gave lane_2 =
    sym (received_by_port b_2.ports.items taker into joined.into.starts_here two.there two.starts)
    ∙ (runs_2.run.spanned.received lane_2 ∙ ap (λ (l : List Stamped). l ++ runs_2.gave lane_2) (received_by_port b.ports.items taker joined.into joined.into.starts_here joined.takes refl)) in
    record {
      out = out;
      into = into;
      sends = one.there;
      takes = two.there;
      pair = ap (λ r. r.0.1) one.rings ∙ (joined.pair ∙ ap (λ r. r.0.0) (sym two.rings));
      sender_few = joined.sender_few;
      taker_few = joined.taker_few;
      one_count = ap (λ (w : WorldState). tunnel_count w sender) (sym tables) ∙ count;
      goes = subst (λ (w : WorldState). AllGoOut w sender out) tables (goes_as (tables_of a) sender joined.out out (ap (λ r. r.1.0) one.rings) one.starts joined.goes);
      comes = subst (λ (w : WorldState). AllComeIn w taker into) tables_2 (comes_as (tables_of b) taker joined.into into (ap (λ r. r.1.1) two.rings) two.starts joined.comes);
      left = subst (λ (l : List Stamped). AreFor (tunnel_count (tables_of b_2) taker) (without_stamps (drop (length l) (given out.to)))) (sym received_is)
          (subst (λ (l : List Stamped). AreFor (tunnel_count (tables_of b_2) taker) (without_stamps (drop (length (received joined.into.from ++ runs_2.gave lane_2)) l))) (sym given_is)
          (dropped (tunnel_count (tables_of b_2) taker) (received joined.into.from) (given joined.out.to) (runs_2.gave lane_2) (runs.put lane) joined.even went));
      waiting = subst (λ (b : Bool). AreFor (tunnel_count (tables_of b_2) taker) (part_lane (state_of a_2) (out_lane sender b))) (sym one.starts) waits;
    }

-- ---- of a network

-- a lane that crosses goes out of its part, with nothing before its ring
pub way_open : (world : WorldState) (assigned : List ℕ) (none : Part) (runs : List PartRun) (lane from to sender taker : ℕ) (one : PartRun) (way : IsWay (layout_of world assigned) (parts_by none runs) lane from to sender taker) → AreLaid world assigned none runs
    → AreEmptied world (layout_of world assigned) (tables_at (parts_by none runs)) (states_of (parts_by none runs)) → lane < length world.lanes → from ≢ to → slice_get runs from ≡ Some one
    → (out : Port) → slice_get one.part.ports.items sender ≡ Some out → IsOpen one.part (out_lane sender out.starts_here)
way_open world assigned none runs lane from to sender taker one way all emptied inside apart there out sends_out =
    let layout : Layout = layout_of world assigned in
    let is : parts_by none runs from ≡ one.part = part_is none runs from one there in
    let same_out : way.out ≡ out = one_of (slice_get one.part.ports.items sender) way.out out (ap (λ (p : Part). slice_get p.ports.items sender) (sym is) ∙ way.sends) sends_out in
    let at : ℕ = out_lane sender way.out.starts_here in
    let sends : SendsAt world layout (tables_at (parts_by none runs)) (states_of (parts_by none runs)) lane from at =
    subst (λ (t : ℕ × ℕ). SendsAt world layout (tables_at (parts_by none runs)) (states_of (parts_by none runs)) lane t.0 t.1) way.senders (all.laid.sends lane inside) in
    elim (all.laid.kinds lane inside) [
      | inl same ↦ absurd (apart (ap (λ (t : ℕ × ℕ). t.0) (sym way.senders ∙ (same ∙ way.takers))))
      | inr across ↦
          subst (λ (p : Port). IsOpen one.part (out_lane sender p.starts_here)) same_out (subst (λ (p : Part). IsOpen p at) is (record {
            inside = sends.there;
            here = sends.here;
            away = subst (λ (t : ℕ × ℕ). length (parts_by none runs t.0).engine.boxes ≤ leads_to (tables_of (parts_by none runs t.0)) t.1) way.senders across.away;
            empty = sym (ap (λ (t : ℕ × ℕ). part_lane (state_of (parts_by none runs t.0)) t.1) way.senders) ∙ emptied lane inside across;
          }))
    ]

pub carryable : (world : WorldState) (assigned : List ℕ) (none : Part) (old gone : List PartRun) (retries : Part → ℕ → ℕ → ℕ) (crossing : Crossing) → IsRoute world assigned crossing → AreLaid world assigned none old
    → AreEmptied world (layout_of world assigned) (tables_at (parts_by none old)) (states_of (parts_by none old)) → IsJoined old crossing
    → ((i : ℕ) (a : PartRun) → slice_get old i ≡ Some a → (b : PartRun) × ((slice_get gone i ≡ Some b) × Runs a.part b.part (retries a.part))) → IsCarryable gone crossing
carryable world assigned none old gone retries crossing route all emptied joined ran =
    let from = ran crossing.from joined.from joined.from_there in
    let to = ran crossing.to joined.to joined.to_there in
    let there = way_there world assigned none old crossing route all joined in
    let back = way_back world assigned none old crossing route all joined in
    let inside : (side : ℕ) → side < 2 → 2 * route.c + side < length world.lanes = λ side low. lane_inside (length world.lanes) (length world.channels) route.c side all.laid.each_lane route.inside low in
    record {
      from = from.0;
      to = to.0;
      from_there = from.1.0;
      to_there = to.1.0;
      there = can_after joined.from.part joined.to.part from.0.part to.0.part crossing.from_port crossing.to_port (retries joined.from.part) (retries joined.to.part) joined.there from.1.1 to.1.1
          (way_open world assigned none old (2 * route.c + 1) crossing.from crossing.to crossing.from_port crossing.to_port joined.from there all emptied (inside 1 (omega arith)) route.apart joined.from_there joined.there.out joined.there.sends);
      back = can_after joined.to.part joined.from.part to.0.part from.0.part crossing.to_port crossing.from_port (retries joined.to.part) (retries joined.from.part) joined.back to.1.1 from.1.1
          (way_open world assigned none old (2 * route.c + 0) crossing.to crossing.from crossing.to_port crossing.from_port joined.to back all emptied (inside 0 (omega arith)) (λ same. route.apart (sym same)) joined.to_there joined.back.out joined.back.sends);
    }
