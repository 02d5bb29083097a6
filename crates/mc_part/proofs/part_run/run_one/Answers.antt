use Rattle.std.proofs.Common.{◌||◌, Bool, IsTrue, subst}
use Rattle.mc_part.proofs.Going.{idle, ran}
use Rattle.mc_part.proofs.part_run.run_one.Goals as goal

pub returns-then-run : goal.returns-then-run
returns-then-run g c =
    let end = c.run_part-ended.ensures in
    ran c.args.retries c.args.every c.args.budget c.args.run.now c.run_part-ended.new.part c.run_part-ended.result
    c.if-run.true c.requires.ready end.run end.within end.few end.ends end.progress end.used c.learn-run.result
    (λ on.
    let unowed = c.learn-run.ensures.unowed on in
    (subst (λ (b : Bool). IsTrue (b || c.args.run.now.known.unowed)) c.has_retried-retried.ensures unowed.0, unowed.1))
    c.learn-run.ensures.unshifted

pub returns-else-run : goal.returns-else-run
returns-else-run g c = idle c.args.retries c.args.every c.args.budget c.args.run.now c.if-run.false c.requires.ready
