use Rattle.std.proofs.Common.{◌∙◌, inl}
use Rattle.mc_call.specs.Printed.{feature_words}
use Rattle.mc_call.proofs.Answering.{answers_delivered}
use Rattle.mc_call.proofs.Explaining.{explains_name}
use Rattle.mc_call.proofs.refusing.refuse_name.Goals as goal

pub returns-in-Ok-no_box_reason-clause-answers : goal.returns-in-Ok-no_box_reason-clause-answers
returns-in-Ok-no_box_reason-clause-answers g c =
    answers_delivered _ _ _ _ _ _ _ _ _ _ (inl c.deliver.ensures.due)
    (explains_name c.args.name.now (feature_words c.args.names.now c.args.world.now) c.in-Ok-no_box_reason.reason c.deref.result.now c.deliver.result.journal.items
    c.in-Ok-no_box_reason.ensures (c.deref.ensures.value ∙ c.in-Ok.ensures))
    c.deliver.ensures.delivers c.deliver.ensures.due c.deliver.ensures.reason c.deliver.ensures.fault
