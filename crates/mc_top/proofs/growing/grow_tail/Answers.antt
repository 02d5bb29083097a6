use Rattle.std.proofs.Common.{Global, Vec, ap}
use Rattle.mc_call.proofs.Answering.{answers_ran}
use Rattle.mc_script.specs.declared.command.JournalLine.{JournalLine}
use Rattle.mc_top.proofs.GrownEnds.{grown_ran, never_read, prints_grown_stop}
use Rattle.mc_top.specs.Statuses.{grown_due_by}
use Rattle.mc_top.proofs.growing.grow_tail.Goals as goal

pub grown_reason-requires : goal.grown_reason-requires
grown_reason-requires g c = prints_grown_stop c.args.net c.args.tail c.in-Ok.run' c.in-Ok.ensures

pub returns-clause-ends : goal.returns-clause-ends
returns-clause-ends g c =
    grown_ran c.args.text.now c.args.net c.args.tail c.in-Ok.run' (g.K.Sink.written c.args.sink.now) (g.K.Sink.written c.deliver_grown.new.sink)
    c.deliver_grown.result.status c.deliver_grown.result.due c.deliver_grown.result.journal.items c.settles_hold.ensures c.keeps.ensures.sound
    c.requires.declares c.requires.tail c.in-Ok.ensures c.deliver_grown.ensures.due (ap (λ (lines : Vec JournalLine Global). lines.items) c.deliver_grown.ensures.journal)
    c.deliver_grown.ensures.delivers

pub returns-clause-answers : goal.returns-clause-answers
returns-clause-answers g c =
    let run = c.in-Ok.run' in
    answers_ran _ _ _ (grown_due_by run.stop) run.output.items run.journal.items _ _ _ _ _ (never_read run.stop c.deliver_grown.result.due c.deliver_grown.ensures.due)
    c.in-Ok-grown_reason.ensures c.deliver_grown.ensures.due
    (ap (λ (lines : Vec JournalLine Global). lines.items) c.deliver_grown.ensures.journal) c.deliver_grown.ensures.delivers c.deliver_grown.ensures.reason c.deliver_grown.ensures.fault
