use Rattle.std.proofs.Common.{inl, inr, refl, sym}
use Rattle.mc_call.proofs.Answering.{answers_weaker}
use Rattle.mc_call.proofs.Explaining.{told_as}
use Rattle.mc_call.specs.Printed.{feature_words}
use Rattle.mc_call.specs.Reasons.{IsFaultOf, of_box}
use Rattle.mc_lines.specs.declared.tail.Tail.TheVariants.{Journal}
use Rattle.mc_ladder_top.specs.Requests.{asked}
use Rattle.mc_ladder_top.proofs.EndsDrawing.{answers_drawing, ends_unknown}
use Rattle.mc_ladder_top.proofs.top.draw_known.Goals as goal

pub returns-in-Some-clause-ends : goal.returns-in-Some-clause-ends
returns-in-Some-clause-ends g c =
    let unknown = c.unknown_in.ensures in
    let found = rw c.in-Some.is at unknown in
    let named = rw c.deref.ensures.value at found in
    ends_unknown (asked c.args.request.now) c.args.text.now c.args.net c.in-Some.name.now (g.K.Sink.written c.args.sink.now) (g.K.Sink.written c.refuse_name-done.new.sink) c.refuse_name-done.result
    c.requires.declares (sym named) c.refuse_name-done.ensures.answers.dues (rw c.as_bytes.ensures.value at c.refuse_name-done.ensures.ends)

pub returns-in-Some-clause-answers : goal.returns-in-Some-clause-answers
returns-in-Some-clause-answers g c =
    answers_drawing _ _ _ _ _ _ _ _
    (answers_weaker _ _ _ _ _ _ _ _ _ (λ dues. elim dues [ inl nine ↦ inr (inr (inr (inr nine))) | inr three ↦ inr (inr (inl three)) ])
    (told_as (IsFaultOf Journal c.args.text.now) (of_box (feature_words c.args.net.names c.args.net.world)) (c.args.net, c.requires.declares, refl))
    c.refuse_name-done.ensures.answers)
