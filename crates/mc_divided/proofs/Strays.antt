-- No part's run stops at an item that its port shouldn't carry: it is one of those that are left in the ring, and these
-- were put into it in this phase.
use Rattle.std.proofs.Common.{◌≡◌, inl, inr, ◌==◌, ◌<◌, ◌≤◌, ◌+◌, ◌*◌, ◌/◌, ◌++◌, if◌then◌else◌, Bool, true, false, ℕ, zero, suc, IsTrue, Some, None, Option, List, [], ◌∷◌, drop, length, length-append, map, slice_get, refl, ap, sym, ◌∙◌, subst, arith, true≢false}
use Rattle.std.specs.List.{Contains}
use Rattle.std.proofs.Math.Seq.{drop-append_seam}
use Rattle.std.proofs.lemmas.Bool.{eqb-true}
use Rattle.std.proofs.lemmas.Grind.{common_steps}
use Rattle.std.proofs.lemmas.List.{length-map, map-append}
use Rattle.std.proofs.lemmas.List.Elements.{Contains-append_left, Contains-append_right}
use Rattle.std.proofs.lemmas.Option.{slice_get_within}
use mathlib.Core.List.{IsPrefix}
use Rattle.mc_box.specs.declared.event.Turn.{Turn}
use Rattle.mc_merge.specs.Clocks.{AreClocked, item_stamps, own_stamps, stamps_below}
use Rattle.mc_merge.specs.LaneLogs.{without_stamps}
use Rattle.mc_merge.specs.Logs.{Own}
use Rattle.mc_merge.specs.Together.{Ran}
use Rattle.mc_merge.specs.Wholes.{made_of}
use Rattle.mc_merge.specs.declared.log.Made.{Made}
use Rattle.mc_merge.specs.declared.log.PartLog.{PartLog}
use Rattle.mc_merge.proofs.Fitting.{puts_fit}
use Rattle.mc_port.specs.Ends.{given, known, left_in, received}
use Rattle.mc_port.specs.declared.stamped.Stamped.{Stamped}
use Rattle.mc_world.specs.Pumping.{is_slot_at}
use Rattle.mc_part.specs.Carrying.{AllComeIn, AreFor, CanCarry, tunnel_count}
use Rattle.mc_part.specs.Networks.{HaveRun}
use Rattle.mc_part.specs.Parts.{Runs, tables_of}
use Rattle.mc_part.specs.Ports.{entry_slot, into_lane, out_lane, received_at, received_by, sides}
use Rattle.mc_part.specs.Running.{MeetsStray}
use Rattle.mc_part.specs.declared.limit.TheConstants.{STAMP_LIMIT}
use Rattle.mc_part.specs.declared.part.Part.{Part}
use Rattle.mc_part.specs.declared.part_run.PartRun.{PartRun}
use Rattle.mc_part.specs.declared.port.Port.{Port}
use Rattle.mc_part.proofs.Draining.{drains_meet}
use Rattle.mc_part.proofs.Networks.{ran_of}
use Rattle.mc_divided.specs.Networks.{AreJoined, HasCrossing, IsJoined}
use Rattle.mc_divided.specs.Phasing.{HasCrossed, IsCarryable, IsLaneCarried}
use Rattle.mc_divided.specs.declared.network.Crossing.{Crossing}
use Rattle.mc_divided.specs.declared.network.DividedNetwork.{DividedNetwork}
use Rattle.mc_divided.proofs.Carryable.{given_by_port, received_by_port}
use Rattle.mc_divided.proofs.Closed.{Phased}
use Rattle.mc_divided.proofs.Lists.{one_of}
use Rattle.mc_divided.proofs.PartsBy.{by_part, part_is, parts_by, run_there}
use Rattle.mc_divided.proofs.Phased.{HasNone, all_carryable, joined_of, log_few, times_div, went_run}
use Rattle.mc_divided.proofs.Ways.{IsPortAfter, port_after}

-- ---- what is left in the ring of a port

-- the port knows of a beginning of it, and it is for tunnels that come in there
record HasLeft (part : Part) (channel : ℕ) (port : Port) (gave put : List Stamped) : Type 0 where
  left : List Stamped
  ring : gave ++ left ≡ put
  knew : IsPrefix (known port.from) left
  fits : AreFor (tunnel_count (tables_of part) channel) (without_stamps left)
  comes : AllComeIn (tables_of part) channel port

-- of two parts that ran, and were carried over
left_by : (a b a_2 b_2 a_3 b_3 : Part) (sender taker : ℕ) (retries retries_2 : ℕ → ℕ → ℕ) (port : Port) → AreJoined a b sender taker → (runs : Runs a a_2 retries) → (runs_2 : Runs b b_2 retries_2) → CanCarry a_2 b_2 sender taker
    → (c : IsLaneCarried a_2 a_3 b_2 b_3 sender taker) → slice_get b_2.ports.items taker ≡ Some port → HasLeft b_2 taker port (runs_2.gave (into_lane taker port.starts_here)) (runs.put (out_lane sender c.out.starts_here))
left_by a b a_2 b_2 a_3 b_3 sender taker retries retries_2 port joined runs runs_2 can c there =
    let one : IsPortAfter a_2.ports.items sender joined.out = port_after a.ports.items a_2.ports.items sender joined.out joined.sends runs.run.rings runs.run.sides in
    let two : IsPortAfter b_2.ports.items taker joined.into = port_after b.ports.items b_2.ports.items taker joined.into joined.takes runs_2.run.rings runs_2.run.sides in
    let into_is : c.into ≡ port = one_of (slice_get b_2.ports.items taker) c.into port c.takes there in
    let starts : joined.out.starts_here ≡ c.out.starts_here = sym one.starts ∙ ap (λ (p : Port). p.starts_here) (one_of (slice_get a_2.ports.items sender) one.port_2 c.out one.there c.sends) in
    let starts_2 : joined.into.starts_here ≡ port.starts_here = sym two.starts ∙ ap (λ (p : Port). p.starts_here) (one_of (slice_get b_2.ports.items taker) two.port_2 port two.there there) in
    let gave : List Stamped = runs_2.gave (into_lane taker port.starts_here) in
    let put : List Stamped = runs.put (out_lane sender c.out.starts_here) in
    let received_is : received port.from ≡ received joined.into.from ++ gave =
    sym (received_by_port b_2.ports.items taker port port.starts_here there refl)
    ∙ (runs_2.run.spanned.received (into_lane taker port.starts_here) ∙ ap (λ (l : List Stamped). l ++ gave) (received_by_port b.ports.items taker joined.into port.starts_here joined.takes starts_2)) in
    let given_is : given c.out.to ≡ given joined.out.to ++ put =
    sym (given_by_port a_2.ports.items sender c.out c.out.starts_here c.sends refl)
    ∙ (runs.run.spanned.given (out_lane sender c.out.starts_here) ∙ ap (λ (l : List Stamped). l ++ put) (given_by_port a.ports.items sender joined.out c.out.starts_here joined.sends starts)) in
    let all : received port.from ++ c.left ≡ given c.out.to = ap (λ (p : Port). received p.from ++ c.left) (sym into_is) ∙ c.all in
    let left_is : left_in c.out.to port.from ≡ c.left = ap (λ (l : List Stamped). drop (length (received port.from)) l) (sym all) ∙ drop-append_seam (received port.from) c.left in
    let can_into : can.into ≡ port = one_of (slice_get b_2.ports.items taker) can.into port can.takes there in
    let can_out : can.out ≡ c.out = one_of (slice_get a_2.ports.items sender) can.out c.out can.sends c.sends in
    record {
      left = c.left;
      ring = drains_meet (received joined.into.from) (given joined.out.to) gave put c.left joined.even (ap (λ (l : List Stamped). l ++ c.left) (sym received_is) ∙ (all ∙ given_is));
      knew = subst (λ (p : Port). IsPrefix (known p.from) c.left) into_is c.knew;
      fits = subst (λ (l : List Stamped). AreFor (tunnel_count (tables_of b_2) taker) (without_stamps l)) left_is
          (subst (λ (p : Port). AreFor (tunnel_count (tables_of b_2) taker) (without_stamps (left_in p.to port.from))) can_out
          (subst (λ (p : Port). AreFor (tunnel_count (tables_of b_2) taker) (without_stamps (left_in can.out.to p.from))) can_into can.left));
      comes = subst (λ (p : Port). AllComeIn (tables_of b_2) taker p) can_into can.comes;
    }

-- ---- of each port of a network

two_parts : (P : Part → Part → Type 0) (none : Part) (runs : List PartRun) (i j : ℕ) (x y : PartRun) → slice_get runs i ≡ Some x → slice_get runs j ≡ Some y → P x.part y.part → P (parts_by none runs i) (parts_by none runs j)
two_parts P none runs i j x y there there_2 holds =
    subst (λ (p : Part). P p (parts_by none runs j)) (sym (part_is none runs i x there)) (subst (λ (p : Part). P x.part p) (sym (part_is none runs j y there_2)) holds)

-- what is left there was put into the ring by a part
record IsLeftAt (count : ℕ) (new : ℕ → Part) (gave put : ℕ → ℕ → List Stamped) (part channel : ℕ) (port : Port) : Type 0 where
  from : ℕ
  inside : from < count
  lane : ℕ
  left : HasLeft (new part) channel port (gave part (into_lane channel port.starts_here)) (put from lane)

port_total : (one two : List Port) → sides two ≡ sides one → length two ≡ length one
port_total one two same = sym (length-map two (λ (q : Port). q.starts_here)) ∙ (ap length same ∙ length-map one (λ (q : Port). q.starts_here))

-- by the channel whose end it is
left_at : (n : DividedNetwork) (retries every : Bool) (budget : ℕ) (chosen gone carried closed : List PartRun) (logs_2 : List PartLog) (before after : List Turn) (none : HasNone n) (p : Phased n retries every budget chosen gone carried closed logs_2 before after)
    (part channel : ℕ) (port : Port) → part < length n.runs.items → slice_get (parts_by none.none gone part).ports.items channel ≡ Some port
    → IsLeftAt (length n.runs.items) (parts_by none.none gone) (λ i. (went_run n retries every budget chosen gone none p.went i).gave) (λ i. (went_run n retries every budget chosen gone none p.went i).put) part channel port
left_at n retries every budget chosen gone carried closed logs_2 before after none p part channel port inside there = elim has.end [
  | inl from ↦ subst (λ (k : ℕ). At k channel) from.0 (subst (λ (k : ℕ). At x.from k) from.1 at_from) there
  | inr to ↦ subst (λ (k : ℕ). At k channel) to.0 (subst (λ (k : ℕ). At x.to k) to.1 at_to) there
]
  where
    count : ℕ
    count = length n.runs.items

    old : ℕ → Part
    old = parts_by none.none n.runs.items

    new : ℕ → Part
    new = parts_by none.none gone

    runs : HaveRun retries old new
    runs = went_run n retries every budget chosen gone none p.went

    run : (a : PartRun) × (slice_get n.runs.items part ≡ Some a)
    run = run_there n.runs.items part inside

    total : length (new part).ports.items ≡ length run.0.part.ports.items
    total = port_total (old part).ports.items (new part).ports.items (runs part).run.sides ∙ ap (λ (q : Part). length q.ports.items) (part_is none.none n.runs.items part run.0 run.1)

    has : HasCrossing n.crossings.items part channel
    has = p.went.divided.ported part run.0 run.1 channel (subst (λ (k : ℕ). channel < k) total (slice_get_within (new part).ports.items channel port there))

    x : Crossing
    x = has.crossing

    joined : IsJoined n.runs.items x
    joined = joined_of n p.went.divided has.at x has.there

    can : IsCarryable gone x
    can = all_carryable n retries every budget chosen gone p.went has.at x has.there

    crossed : HasCrossed gone carried x
    crossed = p.over.crossed has.at x has.there

    At : ℕ → ℕ → Type 0
    At i k = slice_get (new i).ports.items k ≡ Some port → IsLeftAt count new (λ i. (runs i).gave) (λ i. (runs i).put) i k port

    at_from : At x.from x.from_port
    at_from is =
        let c : IsLaneCarried (new x.to) crossed.to_2.part (new x.from) crossed.from_2.part x.to_port x.from_port =
        two_parts (λ (u v : Part). IsLaneCarried u crossed.to_2.part v crossed.from_2.part x.to_port x.from_port) none.none gone x.to x.from crossed.to crossed.from crossed.to_there crossed.from_there crossed.back in
        record {
          from = x.to;
          inside = slice_get_within n.runs.items x.to joined.to joined.to_there;
          lane = out_lane x.to_port c.out.starts_here;
          left = left_by (old x.to) (old x.from) (new x.to) (new x.from) crossed.to_2.part crossed.from_2.part x.to_port x.from_port _ _ port
              (two_parts (λ (u v : Part). AreJoined u v x.to_port x.from_port) none.none n.runs.items x.to x.from joined.to joined.from joined.to_there joined.from_there joined.back) (runs x.to) (runs x.from)
              (two_parts (λ (u v : Part). CanCarry u v x.to_port x.from_port) none.none gone x.to x.from can.to can.from can.to_there can.from_there can.back) c is;
        }

    at_to : At x.to x.to_port
    at_to is =
        let c : IsLaneCarried (new x.from) crossed.from_2.part (new x.to) crossed.to_2.part x.from_port x.to_port =
        two_parts (λ (u v : Part). IsLaneCarried u crossed.from_2.part v crossed.to_2.part x.from_port x.to_port) none.none gone x.from x.to crossed.from crossed.to crossed.from_there crossed.to_there crossed.there in
        record {
          from = x.from;
          inside = slice_get_within n.runs.items x.from joined.from joined.from_there;
          lane = out_lane x.from_port c.out.starts_here;
          left = left_by (old x.from) (old x.to) (new x.from) (new x.to) crossed.from_2.part crossed.to_2.part x.from_port x.to_port _ _ port
              (two_parts (λ (u v : Part). AreJoined u v x.from_port x.to_port) none.none n.runs.items x.from x.to joined.from joined.to joined.from_there joined.to_there joined.there) (runs x.from) (runs x.to)
              (two_parts (λ (u v : Part). CanCarry u v x.from_port x.to_port) none.none gone x.from x.to can.from can.to can.from_there can.to_there can.there) c is;
        }

-- ---- stamps

in_whole : (gave left put : List Stamped) (k : ℕ) → gave ++ left ≡ put → Contains (item_stamps gave ++ item_stamps left) k → Contains (item_stamps put) k
in_whole gave left put k is has =
    subst (λ (l : List Stamped). Contains (item_stamps l) k) is (subst (λ (l : List ℕ). Contains l k) (sym (map-append (λ (item : Stamped). item.stamp) gave left)) has)

-- nothing came by a lane that isn't a port's
none_came : (gave before after : List Stamped) (k : ℕ) → after ≡ before ++ gave → after ≡ [] → Contains (item_stamps gave) k → ⊥
none_came gave [] after k is none has = no_stamp gave k (sym is ∙ none) has
  where
    no_stamp : (items : List Stamped) (k : ℕ) → items ≡ [] → Contains (item_stamps items) k → ⊥
    no_stamp items k none has = absurd (let below : has.0 < length (item_stamps items) = has.1 in let long : length (item_stamps items) ≡ 0 = ap (λ (l : List Stamped). length (item_stamps l)) none in omega (arith, below, long))
none_came gave (x ∷ before) after k is none has = absurd (let clash : x ∷ (before ++ gave) ≡ [] = sym is ∙ none in cc)

-- what came to one part went out of one
clocked_of : (n : DividedNetwork) (retries every : Bool) (budget : ℕ) (chosen gone carried closed : List PartRun) (logs_2 : List PartLog) (before after : List Turn) (none : HasNone n) (p : Phased n retries every budget chosen gone carried closed logs_2 before after)
    → AreClocked (length n.runs.items) (ran_of retries (parts_by none.none n.runs.items) (parts_by none.none gone) (went_run n retries every budget chosen gone none p.went))
clocked_of n retries every budget chosen gone carried closed logs_2 before after none p = record {
  clocked = λ part inside. (runs part).run.spanned.clocked;
  stamp = λ part inside. by_part (λ (q : Part). q.stamp ≡ 0) none.none n.runs.items (λ i run there. (p.went.divided.idle i run there).stamp) refl part;
  heard = λ part inside. by_part (λ (q : Part). q.heard ≡ 0) none.none n.runs.items (λ i run there. (p.went.divided.idle i run there).heard) refl part;
  rings = λ part lane k inside has. by_port part lane k (slice_get (new part).ports.items (lane / 2)) inside refl has;
}
  where
    old : ℕ → Part
    old = parts_by none.none n.runs.items

    new : ℕ → Part
    new = parts_by none.none gone

    runs : HaveRun retries old new
    runs = went_run n retries every budget chosen gone none p.went

    Came : ℕ → Type 0
    Came k = (from : ℕ) × (from < length n.runs.items) × ((outer : ℕ) × Contains (item_stamps ((runs from).put outer)) k)

    by_lane : (part lane k : ℕ) (port : Port) (is : Bool) → part < length n.runs.items → slice_get (new part).ports.items (lane / 2) ≡ Some port → (lane == into_lane (lane / 2) port.starts_here) ≡ is → Contains (item_stamps ((runs part).gave lane)) k → Came k
    by_lane part lane k port true inside there is has =
        let at = left_at n retries every budget chosen gone carried closed logs_2 before after none p part (lane / 2) port inside there in
        let here : Contains (item_stamps ((runs part).gave (into_lane (lane / 2) port.starts_here))) k =
        subst (λ (l : ℕ). Contains (item_stamps ((runs part).gave l)) k) (eqb-true lane (into_lane (lane / 2) port.starts_here) is) has in (
          at.from,
          at.inside,
          (
            at.lane,
            in_whole ((runs part).gave (into_lane (lane / 2) port.starts_here)) at.left.left ((runs at.from).put at.lane) k at.left.ring
                (Contains-append_left (item_stamps ((runs part).gave (into_lane (lane / 2) port.starts_here))) (item_stamps at.left.left) k here),
          ),
        )
    by_lane part lane k port false inside there is has =
        absurd (none_came ((runs part).gave lane) (received_at (old part).ports.items lane) (received_at (new part).ports.items lane) k ((runs part).run.spanned.received lane)
        (ap (λ (o : Option Port). received_by o lane) there ∙ ap (λ (b : Bool). if b then received port.from else []) is) has)

    by_port : (part lane k : ℕ) (o : Option Port) → part < length n.runs.items → slice_get (new part).ports.items (lane / 2) ≡ o → Contains (item_stamps ((runs part).gave lane)) k → Came k
    by_port part lane k None inside there has =
        absurd (none_came ((runs part).gave lane) (received_at (old part).ports.items lane) (received_at (new part).ports.items lane) k ((runs part).run.spanned.received lane) (ap (λ (o : Option Port). received_by o lane) there) has)
    by_port part lane k (Some port) inside there has = by_lane part lane k port (lane == into_lane (lane / 2) port.starts_here) inside there refl has

-- ---- how many turns there are

one_more_part : (n b x y : ℕ) → x ≤ n * b → y ≤ b → x + y ≤ suc n * b
one_more_part n b x y less less_2 = grind (arith, common_steps)

stamps_few : (count budget : ℕ) (parts : ℕ → Ran) → ((part : ℕ) → part < count → length (parts part).log ≤ budget) → length (stamps_below count parts) ≤ count * budget
stamps_few zero budget parts few = omega arith
stamps_few (suc count) budget parts few =
    let own : length (own_stamps (parts count).log) ≤ budget = subst (λ (k : ℕ). k ≤ budget) (sym (length-map (parts count).log (λ (own : Own). own.entry.stamp))) (few count (omega arith)) in
    subst (λ (k : ℕ). k ≤ suc count * budget) (sym (length-append (stamps_below count parts) (own_stamps (parts count).log)))
    (one_more_part count budget (length (stamps_below count parts)) (length (own_stamps (parts count).log)) (stamps_few count budget parts (λ part below. few part (omega (arith, below)))) own)

log_long : (log : List Own) (before after : List Made) → before ≡ [] → after ≡ before ++ map made_of log → length log ≡ length after
log_long log before after none is = sym (length-map log made_of) ∙ ap length (ap (λ (l : List Made). l ++ map made_of log) (sym none) ∙ sym is)

turns_few : (n : DividedNetwork) (retries every : Bool) (budget : ℕ) (chosen gone carried closed : List PartRun) (logs_2 : List PartLog) (before after : List Turn) (none : HasNone n) (p : Phased n retries every budget chosen gone carried closed logs_2 before after)
    → length (stamps_below (length n.runs.items) (ran_of retries (parts_by none.none n.runs.items) (parts_by none.none gone) (went_run n retries every budget chosen gone none p.went))) ≤ STAMP_LIMIT
turns_few n retries every budget chosen gone carried closed logs_2 before after none p =
    let runs = went_run n retries every budget chosen gone none p.went in
    let few : length (stamps_below (length n.runs.items) (ran_of retries (parts_by none.none n.runs.items) (parts_by none.none gone) runs)) ≤ length n.runs.items * budget =
    stamps_few (length n.runs.items) budget (ran_of retries (parts_by none.none n.runs.items) (parts_by none.none gone) runs) (λ part below.
    let a = run_there n.runs.items part below in
    let c = run_there gone part (subst (λ (k : ℕ). part < k) (sym (p.went.went.count ∙ p.went.chose.count)) below) in
    let none_yet : (parts_by none.none n.runs.items part).log.items ≡ [] = ap (λ (q : Part). q.log.items) (part_is none.none n.runs.items part a.0 a.1) ∙ (p.went.divided.idle part a.0 a.1).log in
    let long : length (runs part).run.log ≡ length c.0.part.log.items =
    log_long (runs part).run.log (parts_by none.none n.runs.items part).log.items (parts_by none.none gone part).log.items none_yet (runs part).run.logged ∙ ap (λ (q : Part). length q.log.items) (part_is none.none gone part c.0 c.1) in
    subst (λ (k : ℕ). k ≤ budget) (sym long) (log_few n retries every budget chosen gone p.went part a.0 a.1 c.0 c.1)) in
    let most : length n.runs.items * budget ≤ STAMP_LIMIT = times_div (length n.runs.items) budget (length n.runs.items) refl p.went.few in
    omega (arith, few, most)

-- ---- the first item that a port knows of

first_left : (seen left : List Stamped) (item : Stamped) → IsPrefix seen left → slice_get seen 0 ≡ Some item → left ≡ item ∷ drop 1 left
first_left [] left item begins is = absurd (cc)
first_left (x ∷ seen) [] item begins is = absurd (cc (begins.1))
first_left (x ∷ seen) (y ∷ left) item begins is = ap (λ (s : Stamped). s ∷ left) (let same : y ≡ item = cc (begins.1, is) in same)

head_in : (x : Stamped) (items : List Stamped) → Contains (item_stamps (x ∷ items)) x.stamp
head_in x items = (0, omega arith, refl)

not_both : (b : Bool) → b ≡ true → b ≡ false → ⊥
not_both b is off = true≢false (sym is ∙ off)

pub none_meets_stray : (n : DividedNetwork) (retries every : Bool) (budget : ℕ) (chosen gone carried closed : List PartRun) (logs_2 : List PartLog) (before after : List Turn) (none : HasNone n) → Phased n retries every budget chosen gone carried closed logs_2 before after
    → (i channel : ℕ) (c : PartRun) → slice_get gone i ≡ Some c → MeetsStray c.part channel → ⊥
none_meets_stray n retries every budget chosen gone carried closed logs_2 before after none p i channel c there meets =
    let runs = went_run n retries every budget chosen gone none p.went in
    let is : parts_by none.none gone i ≡ c.part = part_is none.none gone i c there in
    let inside : i < length n.runs.items = subst (λ (k : ℕ). i < k) (p.went.went.count ∙ p.went.chose.count) (slice_get_within gone i c there) in
    let at = left_at n retries every budget chosen gone carried closed logs_2 before after none p i channel meets.port inside (subst (λ (q : Part). slice_get q.ports.items channel ≡ Some meets.port) (sym is) meets.there) in
    let first : at.left.left ≡ meets.item ∷ drop 1 at.left.left = first_left (known meets.port.from) at.left.left meets.item at.left.knew meets.first in
    let gave : List Stamped = (runs i).gave (into_lane channel meets.port.starts_here) in
    elim meets.stray [
      | inl above ↦
          let has : Contains (item_stamps at.left.left) meets.item.stamp = subst (λ (l : List Stamped). Contains (item_stamps l) meets.item.stamp) (sym first) (head_in meets.item (drop 1 at.left.left)) in
          let fit = puts_fit (length n.runs.items) (ran_of retries (parts_by none.none n.runs.items) (parts_by none.none gone) runs) at.from at.lane meets.item.stamp
          (clocked_of n retries every budget chosen gone carried closed logs_2 before after none p) at.inside
          (in_whole gave at.left.left ((runs at.from).put at.lane) meets.item.stamp at.left.ring (Contains-append_right (item_stamps gave) (item_stamps at.left.left) meets.item.stamp has)) in
          let few = turns_few n retries every budget chosen gone carried closed logs_2 before after none p in
          absurd (omega (arith, above, fit, few))
      | inr off ↦
          let fits = subst (λ (l : List Stamped). AreFor (tunnel_count (tables_of (parts_by none.none gone i)) channel) (without_stamps l)) first at.left.fits in
          let comes : IsTrue (is_slot_at (tables_of (parts_by none.none gone i)) (into_lane channel meets.port.starts_here) meets.item.tunnel (entry_slot meets.port meets.item.tunnel)) = at.left.comes meets.item.tunnel fits.0 in
          let comes_2 : IsTrue (is_slot_at (tables_of c.part) (into_lane channel meets.port.starts_here) meets.item.tunnel (entry_slot meets.port meets.item.tunnel)) =
          subst (λ (q : Part). IsTrue (is_slot_at (tables_of q) (into_lane channel meets.port.starts_here) meets.item.tunnel (entry_slot meets.port meets.item.tunnel))) is comes in
          not_both (is_slot_at (tables_of c.part) (into_lane channel meets.port.starts_here) meets.item.tunnel (entry_slot meets.port meets.item.tunnel)) comes_2 off
    ]
