use Rattle.std.proofs.Common.{rules}
use Rattle.mc_part.proofs.Progress.{runs_after}
use Rattle.mc_part.proofs.Commanding.{ends_same, from_same, stops_same}
use Rattle.mc_part.specs.Running.{UsesTo}
use Rattle.mc_part.proofs.running.run_on.Goals as goal

pub returns-clause-run : goal.returns-clause-run
returns-clause-run g c = runs_after c.args.retries c.args.part.now c.retry_first.new.part c.go_on.new.part c.go_on.result c.in_ok-retry_first.ensures.run c.go_on.ensures.goes.runs

pub returns-in_err-retry_first-clause-spent : goal.returns-in_err-retry_first-clause-spent
returns-in_err-retry_first-clause-spent g c off =
    let is : UsesTo c.args.budget c.args.part.now c.retry_first.new.part c.in_err-retry_first.field-0.0 =
    stops_same c.args.budget c.args.part.now c.retry_first.new.part _ (c.retry_first.ensures.none off) c.in_err-retry_first.ensures.stops in
    search rules

pub returns-clause-used : goal.returns-clause-used
returns-clause-used g c off = from_same c.args.budget c.args.part.now c.retry_first.new.part c.go_on.new.part c.go_on.result (c.retry_first.ensures.none off) c.go_on.ensures.used

pub returns-clause-spent : goal.returns-clause-spent
returns-clause-spent g c off = ends_same c.args.budget c.args.part.now c.retry_first.new.part c.go_on.new.part c.go_on.result (c.retry_first.ensures.none off) c.go_on.ensures.spent
