-- The network after a phase.
use Rattle.std.proofs.Common.{◌≡◌, ◌<◌, ◌≤◌, ◌+◌, ◌*◌, Bool, false, true≢false, ℕ, All, IsTrue, Some, List, drop, length, map, get_or, slice_get, ap, sym, ◌∙◌, subst, arith, Vec, Global}
use Rattle.std.specs.List.{AllByRecursion}
use Rattle.std.proofs.lemmas.List.{length-map}
use Rattle.std.proofs.lemmas.Option.{slice_get_within}
use Rattle.mc_box.specs.Boxes.{BoxState}
use Rattle.mc_box.specs.declared.event.Turn.{Turn}
use Rattle.mc_box.specs.declared.limit.TheConstants.{SHIFT_LIMIT, SLOT_LIMIT}
use Rattle.mc_box.specs.BoxEvents.{is_command}
use Rattle.mc_model.specs.Shapes.{is_allowed}
use Rattle.mc_model.specs.Sound.{IsSound}
use Rattle.mc_model.specs.Worlds.{WorldState, channel_number_limit}
use Rattle.mc_port.specs.Ends.{given, received}
use Rattle.mc_merge.specs.Account.{PartState}
use Rattle.mc_merge.specs.Phases.{AreEmptied, IsLayout, stands_for}
use Rattle.mc_merge.specs.declared.log.PartLog.{PartLog}
use Rattle.mc_part.specs.Divisions.{part_numbers}
use Rattle.mc_part.specs.Carrying.{AllComeIn, AllGoOut, tunnel_count}
use Rattle.mc_part.specs.Networks.{AreParts, tables_at}
use Rattle.mc_part.specs.Parts.{IsWithin, tables_of}
use Rattle.mc_part.specs.Phases.{EachOf}
use Rattle.mc_part.specs.Ports.{LeadAway, rings_of, sides}
use Rattle.mc_part.specs.Running.{AreCalm}
use Rattle.mc_part.specs.declared.limit.TheConstants.{STAMP_LIMIT}
use Rattle.mc_part.specs.declared.part.Part.{Part}
use Rattle.mc_part.specs.declared.part_run.PartRun.{PartRun}
use Rattle.mc_part.specs.declared.port.Port.{Port}
use Rattle.mc_divided.specs.Networks.{AreJoined, HasCrossing, IsDividedNetwork, IsIdle, IsJoined, ShareClock, base_of, network_layout, network_state, states_among, turn_budget}
use Rattle.mc_divided.specs.Phasing.{HasCrossed, IsClosed}
use Rattle.mc_divided.specs.declared.network.Crossing.{Crossing}
use Rattle.mc_divided.specs.declared.network.DividedNetwork.{DividedNetwork}
use Rattle.mc_divided.proofs.Carryable.{comes_as, goes_as}
use Rattle.mc_divided.proofs.CarriedLanes.{same_tables}
use Rattle.mc_divided.proofs.Closed.{ClosedAt, Phased, carried_over, closed_at, closed_count, drained, goes_on, keeps_sound, opened_at}
use Rattle.mc_divided.proofs.Drained.{IsLike}
use Rattle.mc_divided.proofs.Lists.{one_of, there_at}
use Rattle.mc_divided.proofs.PartsBy.{parts_by, run_there, states_are, tables_are}
use Rattle.mc_divided.proofs.Phased.{HasNone, joined_of, none_of, went_run}
use Rattle.mc_divided.proofs.StillKnown.{still_known}
use Rattle.mc_divided.proofs.Ways.{IsPortAfter, port_after}

-- ---- ports

-- what a part has kept of its ports, from before the phase to after it
pub record KeepsPorts (a d : Part) : Type 0 where
  pub channels : d.engine.channels ≡ a.engine.channels
  pub rings : map rings_of d.ports.items ≡ map rings_of a.ports.items
  pub sides : sides d.ports.items ≡ sides a.ports.items

pub joined_after : (a b d e : Part) (sender taker : ℕ) → AreJoined a b sender taker → KeepsPorts a d → KeepsPorts b e → (out into : Port) → slice_get d.ports.items sender ≡ Some out → slice_get e.ports.items taker ≡ Some into → received into.from ≡ given out.to → AreJoined d e sender taker
joined_after a b d e sender taker joined keeps keeps_2 out into sends takes even =
    let one : IsPortAfter d.ports.items sender joined.out = port_after a.ports.items d.ports.items sender joined.out joined.sends keeps.rings keeps.sides in
    let two : IsPortAfter e.ports.items taker joined.into = port_after b.ports.items e.ports.items taker joined.into joined.takes keeps_2.rings keeps_2.sides in
    let out_is : one.port_2 ≡ out = one_of (slice_get d.ports.items sender) one.port_2 out one.there sends in
    let into_is : two.port_2 ≡ into = one_of (slice_get e.ports.items taker) two.port_2 into two.there takes in
    let out_rings : rings_of out ≡ rings_of joined.out = ap rings_of (sym out_is) ∙ one.rings in
    let into_rings : rings_of into ≡ rings_of joined.into = ap rings_of (sym into_is) ∙ two.rings in
    let out_starts : out.starts_here ≡ joined.out.starts_here = ap (λ (p : Port). p.starts_here) (sym out_is) ∙ one.starts in
    let into_starts : into.starts_here ≡ joined.into.starts_here = ap (λ (p : Port). p.starts_here) (sym into_is) ∙ two.starts in
    let tables = same_tables a d keeps.channels in
    let tables_2 = same_tables b e keeps_2.channels in
    record {
      out = out;
      into = into;
      sends = sends;
      takes = takes;
      pair = ap (λ r. r.0.1) out_rings ∙ (joined.pair ∙ ap (λ r. r.0.0) (sym into_rings));
      sender_few = joined.sender_few;
      taker_few = joined.taker_few;
      one_count = ap (λ (w : WorldState). tunnel_count w sender) (sym tables) ∙ (joined.one_count ∙ ap (λ (w : WorldState). tunnel_count w taker) tables_2);
      goes = subst (λ (w : WorldState). AllGoOut w sender out) tables (goes_as (tables_of a) sender joined.out out (ap (λ r. r.1.0) out_rings) out_starts joined.goes);
      comes = subst (λ (w : WorldState). AllComeIn w taker into) tables_2 (comes_as (tables_of b) taker joined.into into (ap (λ r. r.1.1) into_rings) into_starts joined.comes);
      even = even;
    }

keeps_ports : (n : DividedNetwork) (retries every : Bool) (budget : ℕ) (chosen gone carried closed : List PartRun) (logs_2 : List PartLog) (before after : List Turn) → Phased n retries every budget chosen gone carried closed logs_2 before after → (i : ℕ) (x d : PartRun) → slice_get n.runs.items i ≡ Some x → slice_get closed i ≡ Some d → KeepsPorts x.part d.part
keeps_ports n retries every budget chosen gone carried closed logs_2 before after p i x d there there_2 =
    let at : ClosedAt gone closed n retries every budget chosen i x = closed_at n retries every budget chosen gone carried closed logs_2 before after p i x there in
    subst (λ (r : PartRun). KeepsPorts x.part r.part) (one_of (slice_get closed i) at.d d at.d_there there_2) (record {
      channels = at.like.channels ∙ at.ran.runs.run.channels;
      rings = at.like.rings_are ∙ at.ran.runs.run.rings;
      sides = at.like.sides_are ∙ at.ran.runs.run.sides;
    })

joined_at : (n : DividedNetwork) (retries every : Bool) (budget : ℕ) (chosen gone carried closed : List PartRun) (logs_2 : List PartLog) (before after : List Turn) → Phased n retries every budget chosen gone carried closed logs_2 before after → (i : ℕ) (crossing : Crossing) → slice_get n.crossings.items i ≡ Some crossing → IsJoined closed crossing
joined_at n retries every budget chosen gone carried closed logs_2 before after p i crossing there =
    let joined : IsJoined n.runs.items crossing = joined_of n p.went.divided i crossing there in
    let c : HasCrossed gone closed crossing = (drained n retries every budget chosen gone carried closed logs_2 before after p).crossed i crossing (ap (λ (l : List Crossing). slice_get l i) (sym p.went.divided.crossings) ∙ there) in
    let from = keeps_ports n retries every budget chosen gone carried closed logs_2 before after p crossing.from joined.from c.from_2 joined.from_there c.from_there_2 in
    let to = keeps_ports n retries every budget chosen gone carried closed logs_2 before after p crossing.to joined.to c.to_2 joined.to_there c.to_there_2 in
    record {
      from = c.from_2;
      to = c.to_2;
      from_there = c.from_there_2;
      to_there = c.to_there_2;
      there = joined_after joined.from.part joined.to.part c.from_2.part c.to_2.part crossing.from_port crossing.to_port joined.there from to c.there.out_2 c.there.into_2 c.there.sends_2 c.there.takes_2 c.there.even;
      back = joined_after joined.to.part joined.from.part c.to_2.part c.from_2.part crossing.to_port crossing.from_port joined.back to from c.back.out_2 c.back.into_2 c.back.sends_2 c.back.takes_2 c.back.even;
    }

-- ---- each part is ready again

port_count : (one two : List Port) → sides two ≡ sides one → length two ≡ length one
port_count one two same = sym (length-map two (λ (q : Port). q.starts_here)) ∙ (ap (λ (l : List Bool). length l) same ∙ length-map one (λ (q : Port). q.starts_here))

-- each port is still at an end of a channel
ported_after : (n : DividedNetwork) (retries every : Bool) (budget : ℕ) (chosen gone carried closed : List PartRun) (logs_2 : List PartLog) (before after : List Turn) → Phased n retries every budget chosen gone carried closed logs_2 before after
    → (i : ℕ) (d : PartRun) → slice_get closed i ≡ Some d → (port : ℕ) → port < length d.part.ports.items → HasCrossing n.crossings.items i port
ported_after n retries every budget chosen gone carried closed logs_2 before after p i d there port below =
    let opened = opened_at n retries every budget chosen gone carried closed logs_2 before after p i d there in
    let at : ClosedAt gone closed n retries every budget chosen i opened.0 = closed_at n retries every budget chosen gone carried closed logs_2 before after p i opened.0 opened.1 in
    let same : at.d ≡ d = one_of (slice_get closed i) at.d d at.d_there there in
    let like : IsLike at.ran.c.part d.part = subst (λ (r : PartRun). IsLike at.ran.c.part r.part) same at.like in
    p.went.divided.ported i opened.0 opened.1 port (subst (λ (k : ℕ). port < k) (port_count opened.0.part.ports.items d.part.ports.items (like.sides_are ∙ at.ran.runs.run.sides)) below)

-- what a closed part keeps of the part that ran
idle_after : (n : DividedNetwork) (retries every : Bool) (budget : ℕ) (chosen gone carried closed : List PartRun) (logs_2 : List PartLog) (before after : List Turn) → Phased n retries every budget chosen gone carried closed logs_2 before after → ((i : ℕ) (x d : PartRun) → slice_get n.runs.items i ≡ Some x → slice_get closed i ≡ Some d → AllByRecursion (λ (turn : Turn). IsTrue (is_allowed d.part.engine turn)) (drop d.part.used d.part.commands.items))
    → EachOf (IsIdle (turn_budget (length n.runs.items))) closed
idle_after n retries every budget chosen gone carried closed logs_2 before after p allowed i d there =
    let opened = opened_at n retries every budget chosen gone carried closed logs_2 before after p i d there in
    let x : PartRun = opened.0 in
    let idle : IsIdle (turn_budget (length n.runs.items)) x = p.went.divided.idle i x opened.1 in
    let at : ClosedAt gone closed n retries every budget chosen i x = closed_at n retries every budget chosen gone carried closed logs_2 before after p i x opened.1 in
    let same : at.d ≡ d = one_of (slice_get closed i) at.d d at.d_there there in
    let like : IsLike at.ran.c.part d.part = subst (λ (r : PartRun). IsLike at.ran.c.part r.part) same at.like in
    let mid = run_there carried i (subst (λ (k : ℕ). i < k) (sym p.over.same.count) (slice_get_within gone i at.ran.c at.ran.c_there)) in
    let shut : IsClosed mid.0 d = p.merged.closed.each i mid.0 d mid.1 there in
    let moved = p.over.same.each i at.ran.c mid.0 at.ran.c_there mid.1 in
    let shifts : d.part.shifts ≡ at.ran.c.part.shifts = ap (λ (r : PartRun). r.part.shifts) shut.kept ∙ ap (λ (q : Part). q.shifts) moved.part.kept in
    let commands : d.part.commands ≡ at.ran.c.part.commands = ap (λ (r : PartRun). r.part.commands) shut.kept ∙ ap (λ (q : Part). q.commands) moved.part.kept in
    let within : IsWithin at.ran.c.part = at.ran.went.within in
    let boxes : length d.part.engine.boxes ≡ length at.ran.c.part.engine.boxes = ap (λ (l : List BoxState). length l) like.boxes in
    let stamp : d.part.stamp ≡ 0 = ap (λ (r : PartRun). r.part.stamp) shut.kept in
    let heard : d.part.heard ≡ 0 = ap (λ (r : PartRun). r.part.heard) shut.kept in
    record {
      away = subst (λ (k : ℕ). LeadAway (tables_of d.part) k (sides d.part.ports.items)) (sym boxes)
          (subst (λ (l : List Bool). LeadAway (tables_of d.part) (length at.ran.c.part.engine.boxes) l) (sym like.sides_are)
          (subst (λ (w : WorldState). LeadAway w (length at.ran.c.part.engine.boxes) (sides at.ran.c.part.ports.items)) (same_tables at.ran.c.part d.part like.channels) at.ran.went.away));
      within = record {
        stamp = subst (λ (k : ℕ). k ≤ STAMP_LIMIT + length d.part.log.items) (sym stamp) (omega arith);
        heard = subst (λ (k : ℕ). k ≤ STAMP_LIMIT) (sym heard) (omega arith);
        counts = ap (λ (v : Vec ℕ Global). length v.items) shifts ∙ (within.counts ∙ sym boxes);
        shifts = λ who. subst (λ (v : Vec ℕ Global). get_or v.items who 0 ≤ SHIFT_LIMIT) (sym shifts) (within.shifts who);
        commands = subst (λ (v : Vec Turn Global). AllByRecursion (λ (turn : Turn). IsTrue (is_command turn.event)) v.items) (sym commands) within.commands;
        ports = subst (λ (k : ℕ). k ≤ channel_number_limit) (sym (port_count at.ran.c.part.ports.items d.part.ports.items like.sides_are)) within.ports;
      };
      log = shut.log;
      stamp = stamp;
      heard = heard;
      room = subst (λ (k : ℕ). SLOT_LIMIT * k ≤ turn_budget (length n.runs.items)) (sym (boxes ∙ at.ran.runs.run.spanned.work.box_count)) idle.room;
      known = still_known at.ran.c d like.boxes shifts (ap (λ (r : PartRun). r.known) shut.kept ∙ moved.known)
          (at.ran.went.known (still_known x at.ran.b (ap (λ (q : Part). q.engine.boxes) at.ran.chose.part)
          (ap (λ (q : Part). q.shifts) at.ran.chose.part) at.ran.chose.known idle.known));
      allowed = allowed i x d opened.1 there;
    }

-- ---- all of it

pub record Finished (n : DividedNetwork) (runs : Vec PartRun Global) (logs : Vec PartLog Global) (calm : Bool) : Type 0 where
  pub allowed : (i : ℕ) (d : PartRun) → slice_get runs.items i ≡ Some d → AllByRecursion (λ (turn : Turn). IsTrue (is_allowed d.part.engine turn)) (drop d.part.used d.part.commands.items)
  pub calm_is : IsTrue calm → EachOf (λ (run : PartRun). AreCalm run.part) runs.items

same_channels : (n : DividedNetwork) (retries every : Bool) (budget : ℕ) (chosen gone carried closed : List PartRun) (logs_2 : List PartLog) (before after : List Turn) (none : HasNone n) → Phased n retries every budget chosen gone carried closed logs_2 before after → (part : ℕ) → (parts_by none.none closed part).engine.channels ≡ (parts_by none.none n.runs.items part).engine.channels
same_channels n retries every budget chosen gone carried closed logs_2 before after none p part = (carried_over n retries every budget chosen gone carried closed logs_2 before after none p).channels part ∙ (went_run n retries every budget chosen gone none p.went part).run.channels

same_boxes : (n : DividedNetwork) (retries every : Bool) (budget : ℕ) (chosen gone carried closed : List PartRun) (logs_2 : List PartLog) (before after : List Turn) (none : HasNone n) → Phased n retries every budget chosen gone carried closed logs_2 before after → (part : ℕ) → length (parts_by none.none closed part).engine.boxes ≡ length (parts_by none.none n.runs.items part).engine.boxes
same_boxes n retries every budget chosen gone carried closed logs_2 before after none p part =
    ap (λ (l : List BoxState). length l) ((carried_over n retries every budget chosen gone carried closed logs_2 before after none p).boxes part) ∙ (went_run n retries every budget chosen gone none p.went part).run.spanned.work.box_count

pub divided_after : (n : DividedNetwork) (retries every : Bool) (budget : ℕ) (chosen gone carried : List PartRun) (runs : Vec PartRun Global) (logs : Vec PartLog Global) (calm : Bool) (before after : List Turn)
    → Phased n retries every budget chosen gone carried runs.items logs.items before after → Finished n runs logs calm → IsDividedNetwork (record n { runs = runs; logs = logs; calm = calm; free = false })
divided_after n retries every budget chosen gone carried runs logs calm before after p finished =
    let divided = p.went.divided in
    let none : HasNone n = none_of n divided in
    let count : length runs.items ≡ length n.runs.items = closed_count n retries every budget chosen gone carried runs.items logs.items before after p in
    let parts : AreParts (base_of n) (network_layout n) (parts_by none.none runs.items) = goes_on n retries every budget chosen gone carried runs.items logs.items before after none p in
    record {
      frame = divided.frame;
      few = divided.few;
      some = subst (λ (k : ℕ). 0 < k) (sym count) divided.some;
      assigned = subst (λ (k : ℕ). All (λ part. part < k) n.assigned.items) (sym count) divided.assigned;
      numbers = divided.numbers;
      logs = p.merged.numbers ∙ (divided.logs ∙ ap (λ (k : ℕ). part_numbers n.assigned.items k) (sym count));
      none_logged = p.merged.empty;
      channels = λ part inside.
          ap (λ (tables : ℕ → WorldState). (tables part).channels) (tables_are none.none runs.items)
          ∙ (same_channels n retries every budget chosen gone carried runs.items logs.items before after none p part
          ∙ (ap (λ (tables : ℕ → WorldState). (tables part).channels) (sym (tables_are none.none n.runs.items)) ∙ divided.channels part (subst (λ (k : ℕ). part < k) count inside)));
      boxes = λ part inside.
          ap (λ (states : ℕ → PartState). length (states part).boxes) (states_are none.none runs.items)
          ∙ (same_boxes n retries every budget chosen gone carried runs.items logs.items before after none p part
          ∙ (ap (λ (states : ℕ → PartState). length (states part).boxes) (sym (states_are none.none n.runs.items)) ∙ divided.boxes part (subst (λ (k : ℕ). part < k) count inside)));
      laid = subst (λ (tables : ℕ → WorldState). IsLayout (base_of n) (network_layout n) tables (states_among runs.items)) (sym (tables_are none.none runs.items))
          (subst (λ (states : ℕ → PartState). IsLayout (base_of n) (network_layout n) (tables_at (parts_by none.none runs.items)) states) (sym (states_are none.none runs.items)) parts.laid);
      empty = subst (λ (tables : ℕ → WorldState). AreEmptied (base_of n) (network_layout n) tables (states_among runs.items)) (sym (tables_are none.none runs.items))
          (subst (λ (states : ℕ → PartState). AreEmptied (base_of n) (network_layout n) (tables_at (parts_by none.none runs.items)) states) (sym (states_are none.none runs.items)) parts.empty);
      crossings = divided.crossings;
      joined = λ i d inside. joined_at n retries every budget chosen gone carried runs.items logs.items before after p i (get_or n.crossings.items i d) (there_at n.crossings.items i d inside);
      ported = ported_after n retries every budget chosen gone carried runs.items logs.items before after p;
      clocks = subst (λ (l : List ℕ). All (ShareClock l) n.crossings.items) (sym p.merged.clocks) divided.clocks;
      idle = subst (λ (k : ℕ). EachOf (IsIdle (turn_budget k)) runs.items) (sym count)
          (idle_after n retries every budget chosen gone carried runs.items logs.items before after p (λ i x d there there_2. finished.allowed i d there_2));
      calm = finished.calm_is;
      free = λ on. absurd (true≢false (sym on));
      sound = subst (λ (states : ℕ → PartState). IsSound (stands_for (base_of n) (network_layout n) states)) (sym (states_are none.none runs.items)) (keeps_sound n retries every budget chosen gone carried runs.items logs.items before after none p);
    }
