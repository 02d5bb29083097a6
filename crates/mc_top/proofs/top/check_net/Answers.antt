use Rattle.std.proofs.Common.{◌∙◌, inl, refl}
use Rattle.mc_call.proofs.Answering.{answers_delivered, answers_weaker}
use Rattle.mc_call.proofs.Explaining.{told_as}
use Rattle.mc_call.specs.Reasons.{IsFaultOf, of_journal}
use Rattle.mc_explain.specs.Reasons.{line_at}
use Rattle.mc_lines.specs.declared.tail.Tail.TheVariants.{Journal}
use Rattle.mc_net.proofs.MadeNets.{nets_are_named}
use Rattle.mc_top.specs.Refusals.{RefusesCheckBy}
use Rattle.mc_top.specs.declared.checking.TailFault.TheVariants.{At}
use Rattle.mc_top.proofs.NoneClose.{none_closes}
use Rattle.mc_top.proofs.Ending.{ends_check_refused, ends_checked, journal_due}
use Rattle.mc_top.proofs.top.check_net.Goals as goal

pub check_by_net-requires-clause-fits : goal.check_by_net-requires-clause-fits
check_by_net-requires-clause-fits g c = (nets_are_named Journal c.args.text.now c.args.net c.requires.declares).fits

pub check_by_net-requires-clause-none : goal.check_by_net-requires-clause-none
check_by_net-requires-clause-none g c = none_closes c.requires.declares.declared c.args.net.world c.requires.declares.world

pub returns-in-Ok-clause-ends : goal.returns-in-Ok-clause-ends
returns-in-Ok-clause-ends g c =
    rw c.deliver.ensures.journal
    (ends_checked c.args.why c.args.text.now c.args.net (g.K.Sink.written c.args.sink.now) (g.K.Sink.written c.deliver.new.sink)
    c.deliver.result.status c.deliver.result.due c.in-Ok.lines.items c.deref.result.now
    c.requires.declares c.keeps.ensures.sound c.in-Ok.ensures.has c.in-Ok.ensures.journal
    (c.deref.ensures.value ∙ c.in-Ok.ensures.output) c.deliver.ensures.due c.deliver.ensures.delivers)

pub returns-in-Err-At-clause-ends : goal.returns-in-Err-At-clause-ends
returns-in-Err-At-clause-ends g c =
    let refused : RefusesCheckBy c.args.text.now c.args.net (At c.in-Err-At.place) = rw c.in-Err-At.field-0-is at c.in-Err-At.ensures.refused in
    ends_check_refused c.args.why c.args.text.now c.args.net c.in-Err-At.place.number c.in-Err-At.place.turn (g.K.Sink.written c.args.sink.now) (g.K.Sink.written c.refuse_journal.new.sink)
    c.refuse_journal.result c.requires.declares refused.0 c.refuse_journal.ensures.answers.dues c.refuse_journal.ensures.ends

pub returns-in-Ok-clause-answers : goal.returns-in-Ok-clause-answers
returns-in-Ok-clause-answers g c =
    answers_delivered _ _ _ _ _ _ _ _ _ _ (inl c.deliver.ensures.due) (λ old new appends. refl)
    c.deliver.ensures.delivers c.deliver.ensures.due c.deliver.ensures.reason c.deliver.ensures.fault

pub returns-in-Err-At-clause-answers : goal.returns-in-Err-At-clause-answers
returns-in-Err-At-clause-answers g c =
    let refused : RefusesCheckBy c.args.text.now c.args.net (At c.in-Err-At.place) = rw c.in-Err-At.field-0-is at c.in-Err-At.ensures.refused in
    answers_weaker _ _ _ _ _ _ _ _ _ (journal_due c.refuse_journal.result.due)
    (told_as (IsFaultOf Journal c.args.text.now) (of_journal c.in-Err-At.place.line (line_at c.in-Err-At.place.line c.args.text.now)) (c.args.net, c.requires.declares, refused.1, refl))
    c.refuse_journal.ensures.answers
