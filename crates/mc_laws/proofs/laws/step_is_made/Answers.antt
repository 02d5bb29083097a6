use Rattle.mc_laws.proofs.StepSendings.{step_is_made}
use Rattle.mc_laws.proofs.laws.step_is_made.Goals as goal

pub returns : goal.returns
returns c = step_is_made
