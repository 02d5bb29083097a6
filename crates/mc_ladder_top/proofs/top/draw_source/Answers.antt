use Rattle.std.proofs.Common.{inl, refl}
use Rattle.mc_call.proofs.Explaining.{told_of}
use Rattle.mc_lines.specs.declared.tail.Tail.TheVariants.{Journal}
use Rattle.mc_call.specs.Calls.{IsTextOf}
use Rattle.mc_ladder_top.specs.Requests.{asked}
use Rattle.mc_ladder_top.proofs.EndsDrawing.{drawing_told, drawing_weaker, not_failed_read}
use Rattle.mc_ladder_top.proofs.top.draw_source.Goals as goal

pub returns-in-Ok-clause-ends : goal.returns-in-Ok-clause-ends
returns-in-Ok-clause-ends g c =
    let read : IsTextOf Journal (g.S.Source.left c.args.source.now) c.deref.result.now = rw c.deref.ensures.value c.in-Ok.ensures.text in
    drawing_told (asked c.args.request.now) (g.S.Source.left c.args.source.now) (g.K.Sink.written c.args.sink.now) (g.K.Sink.written c.draw_text.new.sink) c.deref.result.now c.draw_text.result
    read c.draw_text.ensures.ends

pub returns-in-Ok-clause-answers : goal.returns-in-Ok-clause-answers
returns-in-Ok-clause-answers g c =
    let read : IsTextOf Journal (g.S.Source.left c.args.source.now) c.deref.result.now = rw c.deref.ensures.value c.in-Ok.ensures.text in
    drawing_weaker _ _ _ _ _ _ _ _ _ _ (λ dues. inl dues) (told_of Journal (g.S.Source.left c.args.source.now) c.deref.result.now read) c.draw_text.ensures.answers

pub returns-in-Ok-clause-read_fault : goal.returns-in-Ok-clause-read_fault
returns-in-Ok-clause-read_fault g c =
    let dues = c.draw_text.ensures.answers.dues in
    rw (not_failed_read c.draw_text.result.due dues) (rw c.in-Ok.is at c.text_of.ensures.faults)

pub returns-in-Ok-clause-read_whole : goal.returns-in-Ok-clause-read_whole
returns-in-Ok-clause-read_whole g c = λ judged. (c.in-Ok.text.items, c.in-Ok.ensures.whole refl)
