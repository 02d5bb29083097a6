use Rattle.mc_cause.proofs.NewOnes.{new_none_closes}
use Rattle.mc_cause.proofs.laws.new_none_closes.Goals as goal

pub returns : goal.returns
returns c = new_none_closes
