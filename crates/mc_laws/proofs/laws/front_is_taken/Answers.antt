use Rattle.mc_laws.proofs.StepKeeps.{front_is_taken}
use Rattle.mc_laws.proofs.laws.front_is_taken.Goals as goal

pub returns : goal.returns
returns c = front_is_taken
