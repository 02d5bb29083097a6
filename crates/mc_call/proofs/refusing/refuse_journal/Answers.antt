use Rattle.std.proofs.Common.{◌∙◌, inl}
use Rattle.mc_call.proofs.Answering.{answers_delivered}
use Rattle.mc_call.proofs.Explaining.{explains_journal}
use Rattle.mc_call.proofs.refusing.refuse_journal.Goals as goal

pub returns-in-Ok-faulty_journal-clause-answers : goal.returns-in-Ok-faulty_journal-clause-answers
returns-in-Ok-faulty_journal-clause-answers g c =
    answers_delivered _ _ _ _ _ _ _ _ _ _ (inl c.deliver.ensures.due)
    (explains_journal c.args.text.now c.args.place.number c.args.place.turn c.args.place.line c.in-Ok-faulty_journal.reason c.deref.result.now c.deliver.result.journal.items
    c.in-Ok-faulty_journal.ensures (c.deref.ensures.value ∙ c.in-Ok.ensures))
    c.deliver.ensures.delivers c.deliver.ensures.due c.deliver.ensures.reason c.deliver.ensures.fault
