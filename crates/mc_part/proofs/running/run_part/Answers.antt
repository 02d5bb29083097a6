use Rattle.mc_part.proofs.Progress.{progresses}
use Rattle.mc_part.proofs.Commanding.{uses_as}
use Rattle.mc_part.proofs.running.run_part.Goals as goal

pub returns-clause-progress : goal.returns-clause-progress
returns-clause-progress g c = progresses c.args.retries c.args.budget c.args.part.now c.run_on-ended.new.part c.run_on-ended.result c.run_on-ended.ensures.run c.run_on-ended.ensures.ends c.run_on-ended.ensures.tried

pub returns-clause-used : goal.returns-clause-used
returns-clause-used g c off = uses_as c.args.budget c.args.part.now c.run_on-ended.new.part c.run_on-ended.result (c.run_on-ended.ensures.used off) (c.run_on-ended.ensures.spent off)
