use Rattle.mc_merge.proofs.Fitting.{kept_logs_fit}
use Rattle.mc_merge.proofs.laws.kept_logs_fit.Goals as goal

pub returns : goal.returns
returns c = kept_logs_fit
