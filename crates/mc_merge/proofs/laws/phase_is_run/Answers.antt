use Rattle.mc_merge.proofs.Phases.{phase_is_run}
use Rattle.mc_merge.proofs.laws.phase_is_run.Goals as goal

pub returns : goal.returns
returns c = phase_is_run
