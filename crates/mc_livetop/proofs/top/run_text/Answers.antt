use Rattle.std.proofs.Common.{refl, rules}
use Rattle.mc_call.proofs.Answering.{answers_weaker}
use Rattle.mc_call.proofs.Explaining.{told_as}
use Rattle.mc_call.specs.Answers.{IsDueOrMemory, IsToldAs, Refuses}
use Rattle.mc_call.specs.Printed.{fault_line}
use Rattle.mc_call.specs.Reasons.{IsFaultOf, of_text}
use Rattle.mc_explain.specs.Reasons.{line_at}
use Rattle.mc_lines.specs.declared.tail.Tail.TheVariants.{Nothing}
use Rattle.mc_livetop.proofs.Ending.{ends_refused, refused_due}
use Rattle.mc_livetop.specs.Statuses.{IsDueForText}
use Rattle.mc_net.specs.Details.{fault_detail}
use Rattle.mc_net.specs.Texts.{IsFault}
use Rattle.mc_livetop.proofs.top.run_text.Goals as goal

pub returns-in-Err-Line-clause-ends : goal.returns-in-Err-Line-clause-ends
returns-in-Err-Line-clause-ends g c =
    let fault : IsFault Nothing c.args.text.now c.in-Err-Line.fault.number c.in-Err-Line.fault.line = search rules in
    let refuses : Refuses 1 (fault_line c.in-Err-Line.fault.number c.in-Err-Line.fault.line) (g.K.Sink.written c.args.sink.now) (g.K.Sink.written c.refuse_text.new.sink) c.refuse_text.result = rw c.in-Err-Line.field-0-is at c.refuse_text.ensures.ends in
    ends_refused c.args.command.operators c.args.command.journal c.args.text.now c.in-Err-Line.fault.number c.in-Err-Line.fault.line (g.K.Sink.written c.args.sink.now) (g.K.Sink.written c.refuse_text.new.sink)
    c.refuse_text.result fault c.refuse_text.ensures.answers.dues refuses

pub returns-in-Err-Line-clause-answers : goal.returns-in-Err-Line-clause-answers
returns-in-Err-Line-clause-answers g c =
    let fault : IsFault Nothing c.args.text.now c.in-Err-Line.fault.number c.in-Err-Line.fault.line = search rules in
    answers_weaker (IsDueOrMemory 1) IsDueForText
    (IsToldAs (of_text c.in-Err-Line.fault.number c.in-Err-Line.fault.line (line_at c.in-Err-Line.fault.line c.args.text.now) (fault_detail Nothing c.args.text.now c.in-Err-Line.fault.number c.in-Err-Line.fault.line)))
    (IsFaultOf Nothing c.args.text.now) (g.K.Sink.written c.args.sink.now) (g.K.Sink.written c.refuse_text.new.sink) (g.K.Sink.faults c.args.sink.now) (g.K.Sink.faults c.refuse_text.new.sink) c.refuse_text.result
    (refused_due c.refuse_text.result.due)
    (told_as (IsFaultOf Nothing c.args.text.now)
    (of_text c.in-Err-Line.fault.number c.in-Err-Line.fault.line (line_at c.in-Err-Line.fault.line c.args.text.now)
    (fault_detail Nothing c.args.text.now c.in-Err-Line.fault.number c.in-Err-Line.fault.line)) (fault, refl, refl))
    (rw c.in-Err-Line.field-0-is at c.refuse_text.ensures.answers)
