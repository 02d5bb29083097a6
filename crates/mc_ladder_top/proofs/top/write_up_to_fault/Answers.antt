use Rattle.std.proofs.Common.{◌≡◌, ◌⊎◌, Some, arith, inl, ℕ}
use Rattle.mc_ladder_top.specs.Requests.{asked}
use Rattle.mc_ladder_top.proofs.EndsDrawing.{drew_up_to_fault, ends_gave_up, ends_up_to_fault}
use Rattle.mc_ladder_top.proofs.top.write_up_to_fault.Goals as goal

pub returns-in-Ok-draw_up_to_fault-clause-ends : goal.returns-in-Ok-draw_up_to_fault-clause-ends
returns-in-Ok-draw_up_to_fault-clause-ends g c = λ net declares known fault placed.
    ends_up_to_fault (asked c.args.request.now) (Some c.args.text.now) (g.K.Sink.written c.args.sink.now) (g.K.Sink.written c.deliver.new.sink) c.deliver.result c.deliver.ensures.due c.requires.asked
    (drew_up_to_fault (asked c.args.request.now) c.args.text.now net c.args.place.number c.args.place.turn c.args.place.line c.in-Ok.reason c.deref.result.now
    (g.K.Sink.written c.args.sink.now) (g.K.Sink.written c.deliver.new.sink) c.deliver.result
    declares known fault placed c.requires.short c.in-Ok.ensures (rw c.deref.ensures.value c.in-Ok-draw_up_to_fault.ensures) c.deliver.ensures.delivers c.deliver.ensures.reason
    (rw c.deliver.ensures.journal c.new.ensures.items))

pub returns-in_default-clause-ends : goal.returns-in_default-clause-ends
returns-in_default-clause-ends g c = λ net declares known fault placed.
    ends_gave_up (asked c.args.request.now) c.args.text.now (g.K.Sink.written c.args.sink.now) c.give_up.result c.give_up.ensures.due c.give_up.ensures.status c.give_up.ensures.journal

pub returns-in-Err-clause-ends : goal.returns-in-Err-clause-ends
returns-in-Err-clause-ends g c = λ net declares known fault placed.
    ends_gave_up (asked c.args.request.now) c.args.text.now (g.K.Sink.written c.args.sink.now) c.give_up-in-Err.result c.give_up-in-Err.ensures.due c.give_up-in-Err.ensures.status c.give_up-in-Err.ensures.journal

pub returns-in-Ok-draw_up_to_fault-clause-answers : goal.returns-in-Ok-draw_up_to_fault-clause-answers
returns-in-Ok-draw_up_to_fault-clause-answers g c = record {
  dues = inl c.deliver.ensures.due;
  status = status_of c.deliver.result.due c.deliver.result.status c.deliver.ensures.due c.deliver.ensures.status;
  fault = c.deliver.ensures.fault;
  reason = λ none. absurd (none (c.requires.asked, c.deliver.ensures.due));
}
  where
    status_of : (due status : ℕ) → due ≡ 8 → (status ≡ 8) ⊎ (status ≡ 5) → (status ≡ due) ⊎ (status ≡ 5)
    status_of due status is either = grind (arith, is, either)
