use Rattle.mc_merge.proofs.WorkedMerges.{worked_merge}
use Rattle.mc_merge.proofs.laws.worked_merge.Goals as goal

pub returns : goal.returns
returns c = worked_merge
