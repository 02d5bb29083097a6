use Rattle.std.proofs.Common.{◌∙◌, inl, inr, subst, sym}
use Rattle.mc_call.proofs.Explaining.{explains_weaker, told_nothing}
use Rattle.mc_call.specs.Answers.{TellsNothing}
use Rattle.mc_call.specs.Reasons.{IsFaultOfTold}
use Rattle.mc_lines.specs.declared.tail.Tail.TheVariants.{Journal}
use Rattle.mc_call.proofs.Told.{not_failed}
use Rattle.mc_ladder_top.specs.Requests.{Requested, asked}
use Rattle.mc_ladder_top.specs.Top.{EndsDrawing}
use Rattle.mc_ladder_top.proofs.EndsDrawing.{completes_drawing}
use Rattle.mc_ladder_top.proofs.Taking.{asked_same, asked_taken, flag_of_read, not_taken}
use Rattle.mc_ladder_top.proofs.top.ladder_top.Goals as goal

pub returns-in_default-clause-complete : goal.returns-in_default-clause-complete
returns-in_default-clause-complete g c = λ text takes told can no_read no_write. inr (inl c.give_up.ensures.status)

pub returns-in_default-read-clause-complete : goal.returns-in_default-read-clause-complete
returns-in_default-read-clause-complete g c = λ text takes told can no_read no_write.
    absurd (not_taken c.args.words.items c.deref.result.now c.in-Ok.read c.deref.ensures.value c.in_default-read.is c.in-Ok.ensures.none takes)

pub returns-in_default-read-clause-usage : goal.returns-in_default-read-clause-usage
returns-in_default-read-clause-usage g c = λ due.
    not_taken c.args.words.items c.deref.result.now c.in-Ok.read c.deref.ensures.value c.in_default-read.is c.in-Ok.ensures.none

pub returns-clause-complete : goal.returns-clause-complete
returns-clause-complete g c = λ text takes told can no_read no_write.
    completes_drawing (asked c.in-Some.request) (g.S.Source.left c.args.source.now) (g.K.Sink.written c.args.sink.now) (g.K.Sink.written c.draw_source.new.sink) text c.draw_source.result
    c.draw_source.ensures.answers.dues c.draw_source.ensures.answers.status c.draw_source.ensures.ends told can
    (not_failed _ _ _ _ c.draw_source.ensures.read_fault no_read) (not_failed _ _ _ _ c.draw_source.ensures.answers.fault no_write)

pub returns-clause-no_command : goal.returns-clause-no_command
returns-clause-no_command g c = λ none. absurd (none (asked_taken c.args.words.items _ c.in-Ok.read c.in-Some.request c.deref.ensures.value c.in-Some.is c.in-Ok.ensures.some))

pub returns-clause-unread : goal.returns-clause-unread
returns-clause-unread g c = λ none. absurd (none (asked_taken c.args.words.items _ c.in-Ok.read c.in-Some.request c.deref.ensures.value c.in-Some.is c.in-Ok.ensures.some))

pub returns-in_default-read-clause-reason : goal.returns-in_default-read-clause-reason
returns-in_default-read-clause-reason g c = λ none.
    explains_weaker TellsNothing (IsFaultOfTold Journal (g.S.Source.left c.args.source.now)) (told_nothing _)
    c.refuse_words.result.reason c.refuse_words.result.status (g.K.Sink.written c.args.sink.now) (g.K.Sink.written c.refuse_words.new.sink) c.refuse_words.result.journal.items c.refuse_words.ensures.answers.reason

pub returns-clause-reason : goal.returns-clause-reason
returns-clause-reason g c = λ none. c.draw_source.ensures.answers.reason (λ drawn. none
    (sym (flag_of_read c.args.words.items _ c.in-Ok.read c.in-Some.request c.deref.ensures.value c.in-Some.is c.in-Ok.ensures.some) ∙ drawn.0, drawn.1))

pub returns-clause-ends : goal.returns-clause-ends
returns-clause-ends g c = λ request asks.
    subst (λ (r : Requested). EndsDrawing r (g.S.Source.left c.args.source.now) (g.K.Sink.written c.args.sink.now) (g.K.Sink.written c.draw_source.new.sink) c.draw_source.result)
    (asked_same c.args.words.items _ c.in-Ok.read c.in-Some.request request c.deref.ensures.value c.in-Some.is c.in-Ok.ensures.some asks) c.draw_source.ensures.ends
