use Rattle.std.proofs.Common.{inl, refl, rules}
use Rattle.mc_call.proofs.Answering.{answers_weaker}
use Rattle.mc_call.proofs.Explaining.{told_as}
use Rattle.mc_call.specs.Reasons.{of_text}
use Rattle.mc_explain.specs.Reasons.{line_at}
use Rattle.mc_lines.specs.declared.tail.Tail.TheVariants.{Grow}
use Rattle.mc_net.specs.Details.{fault_detail}
use Rattle.mc_net.specs.Texts.{IsFault}
use Rattle.mc_top.proofs.GrownEnds.{grown_refused, refused_past}
use Rattle.mc_top.specs.Growing.{IsGrowingFaultOf}
use Rattle.mc_top.proofs.growing.grow_text.Goals as goal

pub returns-in-Err-Line-clause-ends : goal.returns-in-Err-Line-clause-ends
returns-in-Err-Line-clause-ends g c =
    let fault : IsFault Grow c.args.text.now c.in-Err-Line.fault.number c.in-Err-Line.fault.line = search rules in
    grown_refused c.args.text.now c.in-Err-Line.fault.number c.in-Err-Line.fault.line (g.K.Sink.written c.args.sink.now) (g.K.Sink.written c.refuse_text.new.sink)
    c.refuse_text.result (inl fault) c.refuse_text.ensures.answers.dues c.refuse_text.ensures.ends

pub returns-in-Err-Line-clause-answers : goal.returns-in-Err-Line-clause-answers
returns-in-Err-Line-clause-answers g c =
    let fault : IsFault Grow c.args.text.now c.in-Err-Line.fault.number c.in-Err-Line.fault.line = search rules in
    answers_weaker _ _ _ _ _ _ _ _ _ (refused_past c.refuse_text.result.due)
    (told_as (IsGrowingFaultOf c.args.text.now)
    (of_text c.in-Err-Line.fault.number c.in-Err-Line.fault.line (line_at c.in-Err-Line.fault.line c.args.text.now)
    (fault_detail Grow c.args.text.now c.in-Err-Line.fault.number c.in-Err-Line.fault.line)) (inl (fault, refl), refl))
    c.refuse_text.ensures.answers
