use Rattle.std.proofs.Common.{◌≡◌, [], arith}
use Rattle.std.proofs.lemmas.List.{nil_from_length}
use Rattle.mc_phase.proofs.Freeing.{all_begin, all_set, freeing_more, next_taker}
use Rattle.mc_phase.proofs.setting_free.set_free.Goals as goal

pub unreachable-requires : goal.unreachable-requires
unreachable-requires c =
    next_taker c.args.flight.now c.args.members.items c.args.desks.now c.args.seats.now.items c.loop-member.member-iterator.rest.items c.next.new.self.rest.items c.loop-member.takers.rest.items c.loop-member.seats.items c.loop-member.runs.items c.in-Some.member c.loop-member.invariant c.in-Some.ensures.steps.0
    (omega (arith, c.in_default.ensures.cases.0, c.loop-member.takers.rest.ok.0))

pub loop-member-preserved : goal.loop-member-preserved
loop-member-preserved c =
    freeing_more c.args.flight.now c.args.members.items c.args.desks.now c.args.seats.now.items c.loop-member.member-iterator.rest.items c.next.new.self.rest.items c.loop-member.takers.rest.items c.next-in-loop-member.new.self.rest.items c.loop-member.seats.items c.pop.new.self.items c.loop-member.runs.items c.push.new.self.items
    c.in-Some.member c.in-Some-next.taker c.in-Some-pop.seat c.free_one.result c.loop-member.invariant c.in-Some.ensures.steps.0 c.in-Some-next.ensures.cases.0 c.in-Some-pop.ensures.items c.in_ok-push.ensures.items c.free_one.ensures

pub returns-clause-free : goal.returns-clause-free
returns-clause-free c =
    let none : c.loop-member.member-iterator.rest.items ≡ [] = nil_from_length _ (omega (arith, c.in-None.ensures.steps.0, c.loop-member.member-iterator.rest.ok.0)) in
    all_set c.args.flight.now c.args.members.items c.args.desks.now c.args.seats.now.items c.loop-member.member-iterator.rest.items c.loop-member.takers.rest.items c.loop-member.seats.items c.loop-member.runs.items c.loop-member.invariant none

pub returns-clause-new : goal.returns-clause-new
returns-clause-new c =
    let none : c.loop-member.member-iterator.rest.items ≡ [] = nil_from_length _ (omega (arith, c.in-None.ensures.steps.0, c.loop-member.member-iterator.rest.ok.0)) in
    all_begin c.args.flight.now c.args.members.items c.args.desks.now c.args.seats.now.items c.loop-member.member-iterator.rest.items c.loop-member.takers.rest.items c.loop-member.seats.items c.loop-member.runs.items c.loop-member.invariant none
