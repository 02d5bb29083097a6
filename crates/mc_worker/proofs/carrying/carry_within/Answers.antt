use Rattle.std.proofs.Common.{◌∙◌, sym}
use Rattle.mc_worker.proofs.carrying.carry_within.Goals as goal

pub returns-clause-ready : goal.returns-clause-ready
returns-clause-ready c =
    let ready = c.requires.ready in
    let outs = c.carry_over.ensures.outs in
    let ins = c.carry_over.ensures.ins in
    record {
      shaped = record {
        places = ready.shaped.places;
        ends = rw ins.ports_count ready.shaped.ends;
        outs = outs.ports_count ∙ (ready.shaped.outs ∙ sym ins.ports_count);
        inboxes = ins.boxes_count ∙ (ready.shaped.inboxes ∙ sym ins.ports_count);
        outboxes = outs.boxes_count ∙ (ready.shaped.outboxes ∙ sym ins.ports_count);
        few = rw ins.ports_count ready.shaped.few;
        scratch = ready.shaped.scratch;
      };
      allowed = ready.allowed;
      shifts = ready.shifts;
    }
