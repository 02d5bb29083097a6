use Rattle.std.proofs.Common.{inl, rules}
use Rattle.mc_call.proofs.Answering.{answers_weaker}
use Rattle.mc_call.proofs.Explaining.{told_of}
use Rattle.mc_call.specs.Calls.{IsTextOf, ReadsWhole}
use Rattle.mc_lines.specs.declared.tail.Tail.TheVariants.{Nothing}
use Rattle.mc_livetop.proofs.Ending.{ends_told}
use Rattle.mc_livetop.proofs.top.run_source.Goals as goal

pub returns-in-Ok-clause-ends : goal.returns-in-Ok-clause-ends
returns-in-Ok-clause-ends g c =
    let read : IsTextOf Nothing (g.S.Source.left c.args.source.now) c.deref.result.now = rw c.deref.ensures.value c.in-Ok.ensures.text in
    ends_told c.args.command.operators c.args.command.journal (g.S.Source.left c.args.source.now) (g.K.Sink.written c.args.sink.now) (g.K.Sink.written c.run_text.new.sink) c.deref.result.now c.run_text.result
    read c.run_text.ensures.ends

pub returns-in-Ok-clause-answers : goal.returns-in-Ok-clause-answers
returns-in-Ok-clause-answers g c =
    let read : IsTextOf Nothing (g.S.Source.left c.args.source.now) c.deref.result.now = rw c.deref.ensures.value c.in-Ok.ensures.text in
    answers_weaker _ _ _ _ _ _ _ _ _ (λ dues. inl dues) (told_of Nothing (g.S.Source.left c.args.source.now) c.deref.result.now read) c.run_text.ensures.answers

pub returns-in-Ok-clause-read_whole : goal.returns-in-Ok-clause-read_whole
returns-in-Ok-clause-read_whole g c = λ judged.
    let whole : ReadsWhole Nothing (g.S.Source.left c.args.source.now) (g.S.Source.left c.read_up_to.new.source) c.in-Ok.text.items = search rules in
    (c.in-Ok.text.items, whole)
