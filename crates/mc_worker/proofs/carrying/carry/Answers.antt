use Rattle.std.proofs.Common.{◌∙◌, refl, sym}
use Rattle.mc_worker.proofs.carrying.carry.Goals as goal

pub returns-clause-from : goal.returns-clause-from
returns-clause-from c =
    let ready = c.requires.ready_from in
    let outs = c.carry_over.ensures.outs in
    record {
      same = refl;
      ready = record {
        shaped = record {
          places = ready.shaped.places;
          ends = ready.shaped.ends;
          outs = outs.ports_count ∙ ready.shaped.outs;
          inboxes = ready.shaped.inboxes;
          outboxes = outs.boxes_count ∙ ready.shaped.outboxes;
          few = ready.shaped.few;
          scratch = ready.shaped.scratch;
        };
        allowed = ready.allowed;
        shifts = ready.shifts;
      };
    }

pub returns-clause-to : goal.returns-clause-to
returns-clause-to c =
    let ready = c.requires.ready_to in
    let ins = c.carry_over.ensures.ins in
    record {
      same = refl;
      ready = record {
        shaped = record {
          places = ready.shaped.places;
          ends = rw ins.ports_count ready.shaped.ends;
          outs = ready.shaped.outs ∙ sym ins.ports_count;
          inboxes = ins.boxes_count ∙ (ready.shaped.inboxes ∙ sym ins.ports_count);
          outboxes = ready.shaped.outboxes ∙ sym ins.ports_count;
          few = rw ins.ports_count ready.shaped.few;
          scratch = ready.shaped.scratch;
        };
        allowed = ready.allowed;
        shifts = ready.shifts;
      };
    }
