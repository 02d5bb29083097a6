use Rattle.mc_merge.proofs.Fitting.{phase_is_clocked}
use Rattle.mc_merge.proofs.laws.phase_is_clocked.Goals as goal

pub returns : goal.returns
returns c = phase_is_clocked
