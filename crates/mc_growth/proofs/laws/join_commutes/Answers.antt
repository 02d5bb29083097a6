use Rattle.mc_growth.proofs.WideSteps.{join_commutes}
use Rattle.mc_growth.proofs.laws.join_commutes.Goals as goal

pub returns : goal.returns
returns c = join_commutes
