use Rattle.mc_laws.proofs.StepActs.{step_acts}
use Rattle.mc_laws.proofs.laws.step_acts.Goals as goal

pub returns : goal.returns
returns c = step_acts
