use Rattle.mc_top.proofs.MadeTexts.{scenes_can_run}
use Rattle.mc_top.proofs.laws.scenes_can_run.Goals as goal

pub returns : goal.returns
returns c = scenes_can_run
