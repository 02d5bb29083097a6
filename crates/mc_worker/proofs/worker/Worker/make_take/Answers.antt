use Rattle.std.proofs.Common.{◌∙◌, ◌+◌, ap, sym, refl}
use Rattle.mc_worker.proofs.Making.{take_work}
use Rattle.mc_worker.proofs.Shapes.{same_slots, take_same}
use Rattle.mc_worker.proofs.worker.Worker.make_take.Goals as goal

pub returns-clause-same : goal.returns-clause-same
returns-clause-same c = take_same c.args.self.now.part c.args.slot c.args.item.signal _ c.keeps.ensures c.take-sends.ensures.event

pub returns-clause-shaped : goal.returns-clause-shaped
returns-clause-shaped c = record {
  places = c.requires.shaped.places ∙ sym (same_slots c.args.self.now.part c.take-sends.new.self (take_same c.args.self.now.part c.args.slot c.args.item.signal _ c.keeps.ensures c.take-sends.ensures.event));
  ends = rw c.take_at.ensures.ports c.requires.shaped.ends;
  outs = c.send_all.ensures.ports ∙ (c.requires.shaped.outs ∙ sym c.take_at.ensures.ports);
  inboxes = c.take_at.ensures.boxes ∙ (c.requires.shaped.inboxes ∙ sym c.take_at.ensures.ports);
  outboxes = c.send_all.ensures.boxes ∙ (c.requires.shaped.outboxes ∙ sym c.take_at.ensures.ports);
  few = rw c.take_at.ensures.ports c.requires.shaped.few;
  scratch = c.requires.shaped.scratch;
}

pub returns-clause-work : goal.returns-clause-work
returns-clause-work c = record {
  sent = c.as_slice.result.now;
  work = take_work c.args.self.now _ c.args.slot c.args.end c.args.item c.as_slice.result.now c.take_at.result (rw c.as_slice.ensures.sends c.take-sends.ensures.event) (ap (λ n. n + 1) c.max-stamp.ensures) c.requires.stamp c.requires.place
      (c.take_at.ensures.next ∙ c.requires.next) c.take_at.ensures.account c.send_all.ensures.account refl refl c.push.ensures.items refl c.take_at.ensures.rings c.send_all.ensures.rings;
  counted = c.from.ensures ∙ sym c.as_slice.ensures.len;
}
