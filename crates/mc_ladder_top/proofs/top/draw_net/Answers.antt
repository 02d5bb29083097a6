use Rattle.std.proofs.Common.{Some, inl, inr, refl}
use Rattle.mc_call.proofs.Explaining.{told_as}
use Rattle.mc_call.specs.Reasons.{IsFaultOf, of_journal}
use Rattle.mc_explain.specs.Reasons.{line_at}
use Rattle.mc_lines.specs.declared.tail.Tail.TheVariants.{Journal}
use Rattle.mc_top.specs.Refusals.{RefusesCheckBy}
use Rattle.mc_top.specs.declared.checking.TailFault.TheVariants.{At}
use Rattle.mc_ladder_top.specs.Requests.{asked}
use Rattle.mc_ladder_top.proofs.EndsDrawing.{drawing_weaker, drew, ends_drew}
use Rattle.mc_ladder_top.proofs.top.draw_net.Goals as goal

pub returns-in-Ok-clause-ends : goal.returns-in-Ok-clause-ends
returns-in-Ok-clause-ends g c =
    ends_drew (asked c.args.request.now) (Some c.args.text.now) (g.K.Sink.written c.args.sink.now) (g.K.Sink.written c.deliver.new.sink) c.deliver.result c.deliver.ensures.due
    (rw c.deliver.ensures.journal
    (drew (asked c.args.request.now) c.args.text.now c.args.net c.in-Ok.field-0.journal.items c.deref.result.now (g.K.Sink.written c.args.sink.now) (g.K.Sink.written c.deliver.new.sink) c.deliver.result.status
    c.requires.declares c.keeps.ensures.sound c.requires.known c.in-Ok.ensures.has c.in-Ok.ensures.journal (rw c.deref.ensures.value c.in-Ok.ensures.ladder) c.deliver.ensures.delivers))

pub returns-in-Err-At-clause-ends : goal.returns-in-Err-At-clause-ends
returns-in-Err-At-clause-ends g c =
    let refused : RefusesCheckBy c.args.text.now c.args.net (At c.in-Err-At.place) = rw c.in-Err-At.field-0-is at c.in-Err-At.ensures.refused in
    c.refuse_or_draw.ensures.ends c.args.net c.requires.declares c.requires.known refused.0 refused.1

pub refuse_or_draw-requires-clause-declared : goal.refuse_or_draw-requires-clause-declared
refuse_or_draw-requires-clause-declared g c = (c.requires.declares.declared, c.requires.declares.says)

pub returns-in-Err-At-clause-answers : goal.returns-in-Err-At-clause-answers
returns-in-Err-At-clause-answers g c =
    let refused : RefusesCheckBy c.args.text.now c.args.net (At c.in-Err-At.place) = rw c.in-Err-At.field-0-is at c.in-Err-At.ensures.refused in
    drawing_weaker _ _ _ _ _ _ _ _ _ _ (λ dues. elim dues [ inl eight ↦ inr (inr (inr (inl eight))) | inr three ↦ inr (inr (inl three)) ])
    (told_as (IsFaultOf Journal c.args.text.now) (of_journal c.in-Err-At.place.line (line_at c.in-Err-At.place.line c.args.text.now)) (c.args.net, c.requires.declares, refused.1, refl))
    c.refuse_or_draw.ensures.answers
