use Rattle.std.proofs.Common.{Global, Vec, ap}
use Rattle.mc_call.proofs.Answering.{answers_ran}
use Rattle.mc_call.specs.Statuses.{due_by}
use Rattle.mc_script.specs.declared.command.JournalLine.{JournalLine}
use Rattle.mc_top.specs.Modes.{report_of}
use Rattle.mc_words.specs.Commands.{prints_journal}
use Rattle.mc_top.proofs.Explaining.{prints_stop}
use Rattle.mc_top.proofs.Ending.{due_for_text, ends_ran}
use Rattle.mc_top.proofs.top.run_net.Goals as goal

pub returns-clause-ends : goal.returns-clause-ends
returns-clause-ends g c =
    let run = c.in-Ok.run' in
    rw c.deliver_run.ensures.journal
    (ends_ran run.stop c.args.mode c.args.text.now c.args.net (g.K.Sink.written c.args.sink.now) (g.K.Sink.written c.deliver_run.new.sink)
    c.deliver_run.result.status c.deliver_run.result.due run.journal.items run.output.items
    c.requires.runs c.requires.declares c.requires.who c.keeps.ensures.sound c.in-Ok.ensures.ran c.in-Ok.ensures.drawn c.in-Ok.ensures.holds c.in-Ok.ensures.shows c.in-Ok.ensures.shift_limit
    c.in-Ok.ensures.output c.deliver_run.ensures.due (rw c.deliver_run.ensures.due at c.deliver_run.ensures.delivers))

pub stop_reason-requires : goal.stop_reason-requires
stop_reason-requires g c =
    let run = c.in-Ok.run' in
    rw c.deref.ensures.value
    (prints_stop (report_of c.args.mode c.args.net.names) (prints_journal c.args.mode) c.args.net.names c.args.net.world run.stop run.journal.items run.output.items c.in-Ok.ensures.output)

pub returns-clause-answers : goal.returns-clause-answers
returns-clause-answers g c =
    let run = c.in-Ok.run' in
    answers_ran _ _ _ (due_by run.stop) run.output.items run.journal.items _ _ _ _ _ (due_for_text run.stop c.deliver_run.result.due c.deliver_run.ensures.due)
    (rw (c.deref.ensures.value, c.deref-2.ensures.value) at c.in-Ok-stop_reason.ensures) c.deliver_run.ensures.due
    (ap (λ (lines : Vec JournalLine Global). lines.items) c.deliver_run.ensures.journal) c.deliver_run.ensures.delivers c.deliver_run.ensures.reason c.deliver_run.ensures.fault
