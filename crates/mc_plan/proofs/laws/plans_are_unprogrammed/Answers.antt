use Rattle.mc_plan.proofs.Numbered.{plans_are_unprogrammed}
use Rattle.mc_plan.proofs.laws.plans_are_unprogrammed.Goals as goal

pub returns : goal.returns
returns c = plans_are_unprogrammed
