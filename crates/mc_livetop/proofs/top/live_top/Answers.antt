use Rattle.std.proofs.Common.{Bool, ℕ}
use Rattle.mc_call.proofs.Told.{not_failed}
use Rattle.mc_livetop.proofs.Asking.{for_each, none_asked}
use Rattle.mc_livetop.proofs.Ending.{completes}
use Rattle.mc_livetop.specs.Top.{EndsLive}
use Rattle.mc_livetop.proofs.top.live_top.Goals as goal

pub returns-in-Some-clause-complete : goal.returns-in-Some-clause-complete
returns-in-Some-clause-complete g c = λ operators journal text is told can no_read no_write.
    completes operators journal (g.S.Source.left c.args.source.now) (g.K.Sink.written c.args.sink.now) (g.K.Sink.written c.run_source.new.sink) text c.run_source.result
    c.run_source.ensures.answers.dues c.run_source.ensures.answers.status
    (for_each (λ (n : ℕ) (asked : Bool). EndsLive n asked (g.S.Source.left c.args.source.now) (g.K.Sink.written c.args.sink.now) (g.K.Sink.written c.run_source.new.sink) c.run_source.result)
    c.args.words.items c.in-Some.command.operators operators c.in-Some.command.journal journal (rw (c.deref.ensures.value, c.in-Some.is) at c.in-Ok.ensures.some) is c.run_source.ensures.ends)
    told can (not_failed _ _ _ _ c.run_source.ensures.read_fault no_read) (not_failed _ _ _ _ c.run_source.ensures.answers.fault no_write)

pub returns-clause-usage : goal.returns-clause-usage
returns-clause-usage g c = λ usage asks. none_asked c.args.words.items (rw (c.deref.ensures.value, c.in-None.is) at c.in-Ok.ensures.none) asks

pub returns-clause-at_most : goal.returns-clause-at_most
returns-clause-at_most g c = λ asks. absurd (none_asked c.args.words.items (rw (c.deref.ensures.value, c.in-None.is) at c.in-Ok.ensures.none) asks)

pub returns-clause-complete : goal.returns-clause-complete
returns-clause-complete g c = λ operators journal text is told can no_read no_write.
    absurd (none_asked c.args.words.items (rw (c.deref.ensures.value, c.in-None.is) at c.in-Ok.ensures.none) (operators, journal, is))
