use Rattle.std.proofs.Common.{refl, ap, arith, ◌<◌, length}
use Rattle.mc_box.specs.declared.event.Event.TheVariants.{Take}
use Rattle.mc_part.proofs.Calm.{goes_none, goes_once, goes_still}
use Rattle.mc_part.proofs.Ran.{failed, none_within, once_longer, once_within, take_run}
use Rattle.mc_part.specs.Parts.{no_retries}
use Rattle.mc_part.proofs.steps.take.Goals as goal

pub returns-then-len-budget-clause-goes : goal.returns-then-len-budget-clause-goes
returns-then-len-budget-clause-goes g c = goes_none c.args.budget c.args.part.now c.requires.within

pub returns-in-Ok-clause-goes : goal.returns-in-Ok-clause-goes
returns-in-Ok-clause-goes g c =
    let a = c.args.part.now in
    let b = c.turn.new.self in
    let once = c.in-Ok.ensures.made in
    let runs = take_run a b c.args.who c.args.local c.requires.within once in
    let fewer : length a.log.items < c.args.budget = omega (arith, c.if-len-budget.false, c.len.ensures) in
    goes_once c.args.budget a b runs (once_within a b b c.args.who (Take c.args.local) no_retries c.requires.within once refl refl refl (ap (λ p. length p.shifts.items) once.kept) runs) fewer
    (once_longer a b c.args.who (Take c.args.local) once)

pub returns-in-Err-clause-goes : goal.returns-in-Err-clause-goes
returns-in-Err-clause-goes g c =
    let a = c.args.part.now in
    let b = c.turn.new.self in
    goes_still c.args.budget a b (failed a b c.requires.within c.in-Err.ensures.same c.in-Err.ensures.log) (none_within a b c.requires.within c.in-Err.ensures.same c.in-Err.ensures.log) c.in-Err.ensures.log
