use Rattle.mc_part.proofs.Progress.{runs_unasked}
use Rattle.mc_part.proofs.running.retry_first.Goals as goal

pub returns-then-not-retries-clause-run : goal.returns-then-not-retries-clause-run
returns-then-not-retries-clause-run g c = runs_unasked c.args.retries c.args.part.now c.requires.within c.if-not-retries.true
