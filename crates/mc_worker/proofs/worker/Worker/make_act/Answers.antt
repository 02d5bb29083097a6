use Rattle.std.proofs.Common.{◌≡◌, ℕ, ◌++◌, ◌∙◌, ap, sym, refl, List, length}
use Rattle.mc_signal.specs.declared.Signal.{Signal}
use Rattle.mc_worker.proofs.Making.{act_work}
use Rattle.mc_worker.proofs.Shapes.{act_same, same_slots}
use Rattle.mc_worker.proofs.worker.Worker.make_act.Goals as goal

pub returns-clause-same : goal.returns-clause-same
returns-clause-same c = act_same c.args.self.now.part c.args.event _ c.keeps.ensures c.in_ok-act.ensures.event.goes

pub returns-clause-shaped : goal.returns-clause-shaped
returns-clause-shaped c = record {
  places = c.requires.shaped.places ∙ sym (same_slots c.args.self.now.part c.act.new.self (act_same c.args.self.now.part c.args.event _ c.keeps.ensures c.in_ok-act.ensures.event.goes));
  ends = c.requires.shaped.ends;
  outs = c.send_scratch.ensures.ports ∙ c.requires.shaped.outs;
  inboxes = c.requires.shaped.inboxes;
  outboxes = c.send_scratch.ensures.boxes ∙ c.requires.shaped.outboxes;
  few = c.requires.shaped.few;
  scratch = c.send_scratch.ensures.sent;
}

pub returns-clause-work : goal.returns-clause-work
returns-clause-work c =
    let made = c.in_ok-act.ensures.event in
    let items : c.act.new.out.items ≡ made.sent = made.appended ∙ ap (λ (l : List (ℕ × Signal)). l ++ made.sent) c.requires.shaped.scratch in
    record {
      sent = made.sent;
      work = act_work c.args.self.now _ c.args.event made.sent made.goes refl refl refl (λ e. rw (← items) (c.send_scratch.ensures.account e)) c.note_event.ensures.stimuli c.note_event.ensures.shifts c.push.ensures.items refl c.send_scratch.ensures.rings;
      counted = c.len-count.ensures ∙ ap length items;
    }
