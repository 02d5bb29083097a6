use Rattle.mc_merge.proofs.Fitting.{puts_fit}
use Rattle.mc_merge.proofs.laws.puts_fit.Goals as goal

pub returns : goal.returns
returns c = puts_fit
