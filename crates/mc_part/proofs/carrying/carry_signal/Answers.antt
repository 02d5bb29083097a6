use Rattle.std.proofs.Common.{◌≡◌, ◌<◌, ◌∷◌, ◌∙◌, drop, List, length, refl, ap, sym, subst, ℕ, IsTrue, false}
use Rattle.mc_signal.specs.declared.Tagged.{Tagged}
use Rattle.mc_world.specs.Pumping.{with_last, without_first, is_slot_at}
use Rattle.mc_world.specs.Waiting.{take_waits}
use Rattle.mc_part.specs.declared.port.Port.{Port}
use Rattle.mc_part.specs.declared.part.Part.{Part}
use Rattle.mc_part.specs.Carrying.{AreFor, CanCarry, tunnel_count, waiting_at}
use Rattle.mc_part.specs.Parts.{tables_of}
use Rattle.mc_part.specs.Ports.{entry_slot, into_lane, out_lane}
use Rattle.mc_part.proofs.CarriedLanes.{fewer_wait, first_waits, none_left_between, none_wait, one_there, out_is, read_there, signal_gone, stays}
use Rattle.mc_part.proofs.carrying.carry_signal.Goals as goal

pub returns-in_default-clause-over : goal.returns-in_default-clause-over
returns-in_default-clause-over c can = stays c.args.from.now c.args.to.now c.args.sender c.args.taker can c.args.to.now.engine refl

pub returns-in_default-clause-none : goal.returns-in_default-clause-none
returns-in_default-clause-none c off can =
    let from : Part = c.args.from.now in
    let read : Port = c.index.result.now in
    let is : can.out ≡ read = one_there from.ports.items c.args.sender can.out read can.sends (read_there from.ports.items c.args.sender can.out read can.sends c.index.ensures) in
    none_wait from c.args.sender (tunnel_count (tables_of c.args.to.now) c.args.taker) can.out (sym can.one_count) can.goes can.waiting
    (subst (λ (p : Port). (local : ℕ) → take_waits from.engine p.holder local ≡ false) (sym is) c.in_default.ensures.none)

pub put-requires-clause-slot : goal.put-requires-clause-slot
put-requires-clause-slot c =
    let from : Part = c.args.from.now in
    let to : Part = c.args.to.now in
    let can : CanCarry from to c.args.sender c.args.taker = c.requires.can in
    let read : Port = c.index.result.now in
    let read_2 : Port = c.index-port.result.now in
    let is : can.out ≡ read = one_there from.ports.items c.args.sender can.out read can.sends (read_there from.ports.items c.args.sender can.out read can.sends c.index.ensures) in
    let is_2 : can.into ≡ read_2 = one_there to.ports.items c.args.taker can.into read_2 can.takes (read_there to.ports.items c.args.taker can.into read_2 can.takes c.index-port.ensures) in
    let lane : c.in-Some.out.lane ≡ out_lane c.args.sender can.out.starts_here = out_is from c.args.sender can.out read c.in-Some.out can.goes c.in-Some.ensures.some c.in-Some.ensures.home is in
    let tagged : Tagged = record { tunnel = c.in-Some.out.tunnel; signal = c.in-Some.out.signal } in
    let for_all : AreFor (tunnel_count (tables_of to) c.args.taker) (tagged ∷ drop 1 (waiting_at from c.args.sender can.out)) =
    subst (λ (l : List Tagged). AreFor (tunnel_count (tables_of to) c.args.taker) l) (first_waits from (out_lane c.args.sender can.out.starts_here) c.in-Some.out c.in-Some.ensures.some lane) can.waiting in
    subst (λ (p : Port). IsTrue (is_slot_at (tables_of to) (into_lane c.args.taker p.starts_here) c.in-Some.out.tunnel (entry_slot p c.in-Some.out.tunnel))) is_2 (can.comes c.in-Some.out.tunnel for_all.0)

pub returns-in_err-put-clause-over : goal.returns-in_err-put-clause-over
returns-in_err-put-clause-over c can = stays c.args.from.now c.args.to.now c.args.sender c.args.taker can c.put.new.engine c.in_err-put.ensures.same

pub returns-in_err-put-clause-drained : goal.returns-in_err-put-clause-drained
returns-in_err-put-clause-drained c =
    let can : CanCarry c.args.from.now c.args.to.now c.args.sender c.args.taker = c.requires.can in
    none_left_between c.args.from.now (record c.args.to.now { engine = c.put.new.engine }) c.args.sender c.args.taker can.out can.into can.sends can.takes (c.requires.drained can)

pub returns-clause-over : goal.returns-clause-over
returns-clause-over c can =
    let from : Part = c.args.from.now in
    let to : Part = c.args.to.now in
    let read : Port = c.index.result.now in
    let read_2 : Port = c.index-port.result.now in
    let is : can.out ≡ read = one_there from.ports.items c.args.sender can.out read can.sends (read_there from.ports.items c.args.sender can.out read can.sends c.index.ensures) in
    let is_2 : can.into ≡ read_2 = one_there to.ports.items c.args.taker can.into read_2 can.takes (read_there to.ports.items c.args.taker can.into read_2 can.takes c.index-port.ensures) in
    let lane : c.in-Some.out.lane ≡ out_lane c.args.sender can.out.starts_here = out_is from c.args.sender can.out read c.in-Some.out can.goes c.in-Some.ensures.some c.in-Some.ensures.home is in
    let tagged : Tagged = record { tunnel = c.in-Some.out.tunnel; signal = c.in-Some.out.signal } in
    signal_gone from to c.args.sender c.args.taker can c.pop_out.new.self c.put.new.engine tagged (c.requires.drained can) (c.pop_out.ensures ∙ ap (λ (n : ℕ). without_first from.engine n) lane)
    (subst (λ (n : ℕ). n < length from.engine.lanes) lane c.in-Some.ensures.some.there) (first_waits from (out_lane c.args.sender can.out.starts_here) c.in-Some.out c.in-Some.ensures.some lane)
    (c.in_ok-put.ensures.put ∙ ap (λ (p : Port). with_last to.engine (into_lane c.args.taker p.starts_here) tagged) (sym is_2))
    (subst (λ (p : Port). into_lane c.args.taker p.starts_here < length to.engine.lanes) (sym is_2) c.in_ok-put.ensures.there)

pub returns-clause-drained : goal.returns-clause-drained
returns-clause-drained c =
    let can : CanCarry c.args.from.now c.args.to.now c.args.sender c.args.taker = c.requires.can in
    none_left_between (record c.args.from.now { engine = c.pop_out.new.self }) (record c.args.to.now { engine = c.put.new.engine }) c.args.sender c.args.taker can.out can.into can.sends can.takes (c.requires.drained can)

pub returns-clause-fewer : goal.returns-clause-fewer
returns-clause-fewer c on =
    let from : Part = c.args.from.now in
    let can : CanCarry from c.args.to.now c.args.sender c.args.taker = c.requires.can in
    let read : Port = c.index.result.now in
    let is : can.out ≡ read = one_there from.ports.items c.args.sender can.out read can.sends (read_there from.ports.items c.args.sender can.out read can.sends c.index.ensures) in
    let lane : c.in-Some.out.lane ≡ out_lane c.args.sender can.out.starts_here = out_is from c.args.sender can.out read c.in-Some.out can.goes c.in-Some.ensures.some c.in-Some.ensures.home is in
    let tagged : Tagged = record { tunnel = c.in-Some.out.tunnel; signal = c.in-Some.out.signal } in
    fewer_wait from c.args.sender can.out c.pop_out.new.self tagged can.sends (c.pop_out.ensures ∙ ap (λ (n : ℕ). without_first from.engine n) lane)
    (subst (λ (n : ℕ). n < length from.engine.lanes) lane c.in-Some.ensures.some.there) (first_waits from (out_lane c.args.sender can.out.starts_here) c.in-Some.out c.in-Some.ensures.some lane)
