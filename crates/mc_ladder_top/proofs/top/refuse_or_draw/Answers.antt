use Rattle.std.proofs.Common.{◌≡◌, ◌∙◌, Some, arith, false, sym, true}
use Rattle.mc_call.proofs.Explaining.{told_nothing}
use Rattle.mc_ladder_top.specs.Requests.{asked}
use Rattle.mc_ladder_top.proofs.EndsDrawing.{answers_drawing, drawing_weaker, ends_else}
use Rattle.mc_top.proofs.Ending.{ends_check_refused}
use Rattle.mc_ladder_top.proofs.top.refuse_or_draw.Goals as goal

pub returns-then-request-clause-answers : goal.returns-then-request-clause-answers
returns-then-request-clause-answers g c = drawing_weaker _ _ _ _ _ _ _ _ _ _ (λ dues. dues) (told_nothing _) c.write_up_to_fault.ensures.answers

pub returns-else-request-clause-ends : goal.returns-else-request-clause-ends
returns-else-request-clause-ends g c = λ net declares known fault placed.
    let dues = c.refuse_journal.ensures.answers.dues in
    ends_else (asked c.args.request.now) (Some c.args.text.now) (g.K.Sink.written c.args.sink.now) (g.K.Sink.written c.refuse_journal.new.sink) c.refuse_journal.result
    (λ zero. grind (arith, dues, zero)) (λ nine. grind (arith, dues, nine)) (λ is. let no : true ≡ false = sym is.0 ∙ c.if-request.false in absurd (cc))
    (ends_check_refused false c.args.text.now net c.args.place.number c.args.place.turn (g.K.Sink.written c.args.sink.now) (g.K.Sink.written c.refuse_journal.new.sink)
    c.refuse_journal.result declares fault dues c.refuse_journal.ensures.ends)

pub returns-else-request-clause-journal : goal.returns-else-request-clause-journal
returns-else-request-clause-journal g c = c.refuse_journal.ensures.ends.no_journal

pub returns-else-request-clause-answers : goal.returns-else-request-clause-answers
returns-else-request-clause-answers g c = answers_drawing _ _ _ _ _ _ _ _ c.refuse_journal.ensures.answers
