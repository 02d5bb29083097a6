use Rattle.mc_laws.proofs.StepGoes.{under_way_goes}
use Rattle.mc_laws.proofs.laws.under_way_goes.Goals as goal

pub returns : goal.returns
returns c = under_way_goes
