use Rattle.std.proofs.Common.{Global, Vec, ap}
use Rattle.mc_call.proofs.Answering.{answers_ran}
use Rattle.mc_call.specs.Statuses.{due_by}
use Rattle.mc_livetop.proofs.Ending.{due_for_text, ends_ran, prints_stop}
use Rattle.mc_script.specs.declared.command.JournalLine.{JournalLine}
use Rattle.mc_livetop.proofs.top.run_net.Goals as goal

pub stop_reason-requires : goal.stop_reason-requires
stop_reason-requires g c =
    let run = c.in-Ok.run' in
    rw c.deref.ensures.value (prints_stop c.args.command.journal c.args.net.names c.args.net.world run.stop run.journal.items run.output.items c.in-Ok.ensures.output)

pub returns-clause-ends : goal.returns-clause-ends
returns-clause-ends g c =
    let run = c.in-Ok.run' in
    ends_ran run.stop c.args.command.operators c.args.command.journal c.args.text.now c.args.net (g.K.Sink.written c.args.sink.now) (g.K.Sink.written c.deliver_run.new.sink) c.deliver_run.result run.journal.items run.output.items
    c.requires.operators.0 c.requires.declares c.keeps.ensures.sound c.in-Ok.ensures.ran c.in-Ok.ensures.output
    (ap (λ (lines : Vec JournalLine Global). lines.items) c.deliver_run.ensures.journal) c.deliver_run.ensures.due (rw c.deliver_run.ensures.due at c.deliver_run.ensures.delivers)

pub returns-clause-answers : goal.returns-clause-answers
returns-clause-answers g c =
    let run = c.in-Ok.run' in
    answers_ran _ _ _ (due_by run.stop) run.output.items run.journal.items _ _ _ _ _ (due_for_text run.stop c.deliver_run.result.due c.deliver_run.ensures.due)
    (rw (c.deref.ensures.value, c.deref-2.ensures.value) at c.in-Ok-stop_reason.ensures) c.deliver_run.ensures.due
    (ap (λ (lines : Vec JournalLine Global). lines.items) c.deliver_run.ensures.journal) c.deliver_run.ensures.delivers c.deliver_run.ensures.reason c.deliver_run.ensures.fault
