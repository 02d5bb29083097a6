use Rattle.mc_laws.proofs.StepGoes.{front_step_goes}
use Rattle.mc_laws.proofs.laws.front_step_goes.Goals as goal

pub returns : goal.returns
returns c = front_step_goes
