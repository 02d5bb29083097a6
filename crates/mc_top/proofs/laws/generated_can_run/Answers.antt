use Rattle.mc_top.proofs.MadeTexts.{generated_can_run}
use Rattle.mc_top.proofs.laws.generated_can_run.Goals as goal

pub returns : goal.returns
returns c = generated_can_run
