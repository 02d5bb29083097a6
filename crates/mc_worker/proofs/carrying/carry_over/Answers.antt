use Rattle.std.proofs.Common.{◌∙◌, ap, rules}
use Rattle.std.proofs.Math.Seq.{map-set_same}
use Rattle.mc_port.specs.Ends.{in_ring, out_ring}
use Rattle.mc_worker.proofs.BroughtIn.{ring_pair}
use Rattle.mc_worker.proofs.EndSteps.{in_here, in_other, in_set, out_here, out_other, out_set}
use Rattle.mc_worker.proofs.carrying.carry_over.Goals as goal

pub bring_in-requires-clause-pair : goal.bring_in-requires-clause-pair
bring_in-requires-clause-pair c =
    ring_pair c.args.outs.now.items c.args.ins.now.items c.args.end c.args.far c.index_mut.result.now c.index_mut-2.result.now c.requires.out c.requires.taking c.index_mut.ensures.value c.index_mut-2.ensures.value
    c.requires.ring

pub returns-clause-carried : goal.returns-clause-carried
returns-clause-carried c =
    rw (
      out_here c.args.outs.now.items c.args.outboxes.now.boxes c.args.end c.index_mut.result.now c.requires.out c.index_mut.ensures.value,
      out_set c.args.outs.now.items c.bring_in.new.outboxes.boxes c.args.end c.bring_in.new.from c.requires.out,
      in_here c.args.ins.now.items c.args.inboxes.now c.args.far c.index_mut-2.result.now c.requires.taking c.index_mut-2.ensures.value,
      in_set c.args.ins.now.items c.bring_in.new.self c.args.far c.bring_in.new.to c.requires.taking,
    )
    c.bring_in.ensures.carried

pub returns-clause-outs : goal.returns-clause-outs
returns-clause-outs c = record {
  others = λ e off. out_other c.args.outs.now.items c.args.outboxes.now.boxes c.bring_in.new.outboxes.boxes c.args.end e c.bring_in.new.from off (c.bring_in.ensures.outboxes.others e off);
  rings = map-set_same out_ring c.args.outs.now.items c.args.end c.bring_in.new.from c.index_mut.result.now (c.bring_in.ensures.out_ring ∙ ap out_ring c.index_mut.ensures.value);
  ports_count = search rules;
  boxes_count = c.bring_in.ensures.outboxes.count;
}

pub returns-clause-ins : goal.returns-clause-ins
returns-clause-ins c = record {
  others = λ e off. in_other c.args.ins.now.items c.args.inboxes.now c.bring_in.new.self c.args.far e c.bring_in.new.to off (c.bring_in.ensures.inboxes.others e off);
  rings = map-set_same in_ring c.args.ins.now.items c.args.far c.bring_in.new.to c.index_mut-2.result.now (c.bring_in.ensures.in_ring ∙ ap in_ring c.index_mut-2.ensures.value);
  ports_count = search rules;
  boxes_count = c.bring_in.ensures.inboxes.count;
}
