use Rattle.mc_live.proofs.Freed.{free_runs_are_runs}
use Rattle.mc_live.proofs.laws.free_runs_are_runs.Goals as goal

pub returns : goal.returns
returns c = free_runs_are_runs
