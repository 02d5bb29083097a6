use Rattle.std.proofs.Common.{◌≡◌, [], ap, arith}
use Rattle.std.proofs.lemmas.List.{nil_from_length}
use Rattle.mc_desks.proofs.EachLeft.{finished_all, finishing_more, next_desk}
use Rattle.mc_desks.specs.Passes.{lists_of}
use Rattle.mc_desks.proofs.finishing.finish_each.Goals as goal

pub loop-desk-preserved : goal.loop-desk-preserved
loop-desk-preserved g c =
    let takers = c.args.takers.items in
    let columns = lists_of c.args.columns.items in
    finishing_more c.args.room takers columns c.next.new.self.rest.items c.next-in-loop-desk.new.self.rest.items (lists_of c.next-in-loop-desk-2.new.self.rest.items) c.loop-desk.rests.items c.push.new.self.items c.in-Some.desk c.in-Some-next.taker c.in-Some-next-2.operators.items c.in_ok-finish_one.field-0
    (next_desk c.args.room takers columns c.loop-desk.desk-iterator.rest.items c.next.new.self.rest.items c.loop-desk.takers.rest.items c.next-in-loop-desk.new.self.rest.items (lists_of c.loop-desk.columns.rest.items) (lists_of c.next-in-loop-desk-2.new.self.rest.items) c.loop-desk.rests.items c.in-Some.desk c.in-Some-next.taker
    c.in-Some-next-2.operators.items c.loop-desk.invariant c.in-Some.ensures.steps.0 c.in-Some-next.ensures.cases.0 (ap lists_of c.in-Some-next-2.ensures.cases.0))
    c.in_ok-finish_one.ensures c.in_ok-push.ensures.items

pub returns : goal.returns
returns g c =
    let none : c.loop-desk.desk-iterator.rest.items ≡ [] = nil_from_length _ (omega (arith, c.in-None.ensures.steps.0, c.loop-desk.desk-iterator.rest.ok.0)) in
    finished_all c.args.room c.args.takers.items (lists_of c.args.columns.items) c.loop-desk.desk-iterator.rest.items c.loop-desk.takers.rest.items (lists_of c.loop-desk.columns.rest.items) c.loop-desk.rests.items c.loop-desk.invariant none
