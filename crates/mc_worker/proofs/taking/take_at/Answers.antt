use Rattle.std.proofs.Common.{◌∙◌, ap}
use Rattle.std.specs.Option.{option_to_list}
use Rattle.std.proofs.Math.Seq.{map-set_same}
use Rattle.mc_port.specs.Ends.{in_ring}
use Rattle.mc_worker.specs.Boxes.{box_of}
use Rattle.mc_worker.proofs.EndSteps.{in_other, in_take, popped, ring_took, took_next}
use Rattle.mc_worker.proofs.taking.take_at.Goals as goal

pub returns-in-Some-clause-account : goal.returns-in-Some-clause-account
returns-in-Some-clause-account c =
    popped c.args.ins.now.items c.args.inboxes.now c.pop.new.self c.args.end c.in-Some.tagged c.unclaimed.result c.unclaimed.ensures c.in-Some.ensures.item c.in-Some.ensures.others

pub returns-in-None-clause-account : goal.returns-in-None-clause-account
returns-in-None-clause-account c =
    in_take c.args.ins.now.items c.args.inboxes.now c.pop.new.self c.args.end c.index_mut.result.now c.take.new.self (option_to_list c.take.result) c.requires.port c.index_mut.ensures.value c.pop.ensures.others
    (ring_took c.take.result c.index_mut.result.now c.take.new.self (box_of c.args.inboxes.now c.args.end) (box_of c.pop.new.self c.args.end) c.in-None.ensures.item.0 c.in-None.ensures.item.1
    c.take.ensures.received c.take.ensures.known c.take.ensures.none c.take.ensures.more_looks)

pub returns-in-None-clause-others : goal.returns-in-None-clause-others
returns-in-None-clause-others c e off = in_other c.args.ins.now.items c.args.inboxes.now c.pop.new.self c.args.end e c.take.new.self off (c.pop.ensures.others e off)

pub returns-in-None-clause-next : goal.returns-in-None-clause-next
returns-in-None-clause-next c =
    took_next c.take.result c.args.ins.now.items c.args.inboxes.now c.args.end c.index_mut.result.now c.take.new.self c.requires.port c.index_mut.ensures.value c.in-None.ensures.item.0 c.requires.next c.take.ensures.known c.take.ensures.none

pub returns-in-None-clause-rings : goal.returns-in-None-clause-rings
returns-in-None-clause-rings c =
    map-set_same in_ring c.args.ins.now.items c.args.end c.take.new.self c.index_mut.result.now (c.take.ensures.ring ∙ ap in_ring c.index_mut.ensures.value)
