use Rattle.mc_merge.proofs.Phases.{phase_goes_on}
use Rattle.mc_merge.proofs.laws.phase_goes_on.Goals as goal

pub returns : goal.returns
returns c = phase_goes_on
