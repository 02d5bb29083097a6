use Rattle.std.proofs.Common.{◌∙◌, inl}
use Rattle.mc_call.proofs.Answering.{answers_delivered}
use Rattle.mc_call.proofs.Explaining.{explains_line}
use Rattle.mc_call.proofs.refusing.refuse_line.Goals as goal

pub returns-in-Ok-faulty_text-clause-answers : goal.returns-in-Ok-faulty_text-clause-answers
returns-in-Ok-faulty_text-clause-answers g c =
    answers_delivered _ _ _ _ _ _ _ _ _ _ (inl c.deliver.ensures.due)
    (explains_line c.args.text.now c.args.fault.number c.args.fault.line c.args.detail c.in-Ok-faulty_text.reason c.deref.result.now c.deliver.result.journal.items
    c.in-Ok-faulty_text.ensures (c.deref.ensures.value ∙ c.in-Ok.ensures))
    c.deliver.ensures.delivers c.deliver.ensures.due c.deliver.ensures.reason c.deliver.ensures.fault
