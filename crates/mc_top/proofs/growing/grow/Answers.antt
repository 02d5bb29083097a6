use Rattle.std.proofs.Common.{rules}
use Rattle.mc_lines.specs.declared.tail.Tail.TheVariants.{Grow}
use Rattle.mc_call.specs.Calls.{ReadsWhole}
use Rattle.mc_call.proofs.Answering.{answers_weaker}
use Rattle.mc_top.proofs.GrownEnds.{ends_grown_told, told_grown}
use Rattle.mc_top.proofs.growing.grow.Goals as goal

pub returns-in-Ok-clause-ends : goal.returns-in-Ok-clause-ends
returns-in-Ok-clause-ends g c =
    ends_grown_told (g.S.Source.left c.args.source.now) (g.K.Sink.written c.args.sink.now) (g.K.Sink.written c.grow_text.new.sink) c.deref.result.now
    c.grow_text.result.status c.grow_text.result.due c.grow_text.result.journal.items (rw c.deref.ensures.value c.in-Ok.ensures.text) c.grow_text.ensures.ends

pub returns-in-Ok-clause-read_whole : goal.returns-in-Ok-clause-read_whole
returns-in-Ok-clause-read_whole g c = λ judged.
    let whole : ReadsWhole Grow (g.S.Source.left c.args.source.now) (g.S.Source.left c.read_up_to.new.source) c.in-Ok.text.items = search rules in
    (c.in-Ok.text.items, whole)

pub returns-in-Ok-clause-answers : goal.returns-in-Ok-clause-answers
returns-in-Ok-clause-answers g c =
    answers_weaker _ _ _ _ _ _ _ _ _ (λ past. c.grow_text.ensures.ends.dues)
    (told_grown (g.S.Source.left c.args.source.now) c.deref.result.now (rw c.deref.ensures.value c.in-Ok.ensures.text))
    c.grow_text.ensures.answers
