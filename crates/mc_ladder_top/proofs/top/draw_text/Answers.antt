use Rattle.std.proofs.Common.{Some, arith, inl, inr, refl, rules}
use Rattle.mc_call.proofs.Answering.{answers_weaker}
use Rattle.mc_call.proofs.Explaining.{told_as}
use Rattle.mc_call.specs.Reasons.{IsFaultOf, of_text}
use Rattle.mc_explain.specs.Reasons.{line_at}
use Rattle.mc_lines.specs.declared.tail.Tail.TheVariants.{Journal}
use Rattle.mc_net.specs.Details.{fault_detail}
use Rattle.mc_net.specs.Texts.{IsFault}
use Rattle.mc_top.proofs.Ending.{ends_refused}
use Rattle.mc_ladder_top.specs.Requests.{asked}
use Rattle.mc_ladder_top.specs.Top.{checking}
use Rattle.mc_ladder_top.proofs.EndsDrawing.{answers_drawing, ends_else}
use Rattle.mc_ladder_top.proofs.top.draw_text.Goals as goal

pub returns-in-Err-Line-clause-ends : goal.returns-in-Err-Line-clause-ends
returns-in-Err-Line-clause-ends g c =
    let fault : IsFault Journal c.args.text.now c.in-Err-Line.fault.number c.in-Err-Line.fault.line = search rules in
    let dues = c.refuse_text.ensures.answers.dues in
    ends_else (asked c.args.request.now) (Some c.args.text.now) (g.K.Sink.written c.args.sink.now) (g.K.Sink.written c.refuse_text.new.sink) c.refuse_text.result
    (λ zero. grind (arith, dues, zero)) (λ nine. grind (arith, dues, nine)) (λ eight. let due = eight.1 in grind (arith, dues, due))
    (ends_refused checking c.args.text.now c.in-Err-Line.fault.number c.in-Err-Line.fault.line (g.K.Sink.written c.args.sink.now) (g.K.Sink.written c.refuse_text.new.sink)
    c.refuse_text.result fault dues c.refuse_text.ensures.ends)

pub returns-in-Err-Line-clause-answers : goal.returns-in-Err-Line-clause-answers
returns-in-Err-Line-clause-answers g c =
    let fault : IsFault Journal c.args.text.now c.in-Err-Line.fault.number c.in-Err-Line.fault.line = search rules in
    answers_drawing _ _ _ _ _ _ _ _
    (answers_weaker _ _ _ _ _ _ _ _ _ (λ dues. elim dues [ inl one ↦ inr (inl one) | inr three ↦ inr (inr (inl three)) ])
    (told_as (IsFaultOf Journal c.args.text.now)
    (of_text c.in-Err-Line.fault.number c.in-Err-Line.fault.line (line_at c.in-Err-Line.fault.line c.args.text.now)
    (fault_detail Journal c.args.text.now c.in-Err-Line.fault.number c.in-Err-Line.fault.line)) (fault, refl, refl))
    c.refuse_text.ensures.answers)
