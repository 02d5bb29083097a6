use Rattle.mc_stage_plans.proofs.PlansHappen.{plans_are_few, plans_are_named, plans_may_happen}
use Rattle.mc_stage_plans.proofs.laws.plans_may_happen.Goals as goal

pub returns-clause-may : goal.returns-clause-may
returns-clause-may c = plans_may_happen

pub returns-clause-named : goal.returns-clause-named
returns-clause-named c = plans_are_named

pub returns-clause-few : goal.returns-clause-few
returns-clause-few c = plans_are_few
