use Rattle.std.proofs.Common.{Some, inl, inr, refl, rules, sym, ◌∙◌}
use Rattle.mc_call.proofs.Answering.{answers_weaker}
use Rattle.mc_call.proofs.Explaining.{told_as}
use Rattle.mc_call.specs.Reasons.{of_text}
use Rattle.mc_explain.specs.Reasons.{line_at}
use Rattle.mc_lines.specs.declared.detail.Detail.TheVariants.{Nothing}
use Rattle.mc_tail.specs.Tails.{IsTailFault}
use Rattle.mc_top.proofs.GrownEnds.{grown_gave_up, grown_refused, refused_past}
use Rattle.mc_top.specs.Growing.{IsGrowingFaultOf}
use Rattle.mc_top.proofs.growing.grow_net.Goals as goal

pub read_tail-requires : goal.read_tail-requires
read_tail-requires g c = (c.requires.declares.declared, c.requires.declares.says)

pub returns-in-Err-Line-clause-ends : goal.returns-in-Err-Line-clause-ends
returns-in-Err-Line-clause-ends g c =
    let fault : IsTailFault c.args.text.now c.in-Err-Line.fault.number c.in-Err-Line.fault.line = search rules in
    grown_refused c.args.text.now c.in-Err-Line.fault.number c.in-Err-Line.fault.line (g.K.Sink.written c.args.sink.now) (g.K.Sink.written c.refuse_line.new.sink)
    c.refuse_line.result (inr ((c.requires.declares.declared, c.requires.declares.says), fault)) c.refuse_line.ensures.answers.dues c.refuse_line.ensures.ends

pub returns-in-Err-Line-clause-answers : goal.returns-in-Err-Line-clause-answers
returns-in-Err-Line-clause-answers g c =
    let fault : IsTailFault c.args.text.now c.in-Err-Line.fault.number c.in-Err-Line.fault.line = search rules in
    answers_weaker _ _ _ _ _ _ _ _ _ (refused_past c.refuse_line.result.due)
    (told_as (IsGrowingFaultOf c.args.text.now)
    (of_text c.in-Err-Line.fault.number c.in-Err-Line.fault.line (line_at c.in-Err-Line.fault.line c.args.text.now) Nothing)
    (inr ((c.requires.declares.declared, c.requires.declares.says), fault, refl), refl))
    c.refuse_line.ensures.answers

pub returns-clause-ends : goal.returns-clause-ends
returns-clause-ends g c =
    grown_gave_up (Some c.args.text.now) (g.K.Sink.written c.args.sink.now) c.give_up.result.status c.give_up.result.due c.give_up.result.journal.items
    (inl c.give_up.ensures.due) (c.give_up.ensures.status ∙ sym c.give_up.ensures.due) c.give_up.ensures.journal
