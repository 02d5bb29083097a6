use Rattle.mc_laws.proofs.StepSendings.{step_appends}
use Rattle.mc_laws.proofs.laws.step_appends.Goals as goal

pub returns : goal.returns
returns c = step_appends
