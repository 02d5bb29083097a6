use Rattle.mc_merge.proofs.Wholes.{merged_is_run}
use Rattle.mc_merge.proofs.laws.merged_is_run.Goals as goal

pub returns : goal.returns
returns c = merged_is_run
