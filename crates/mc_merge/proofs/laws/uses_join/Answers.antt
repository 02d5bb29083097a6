use Rattle.mc_merge.proofs.Usage.{uses_join}
use Rattle.mc_merge.proofs.laws.uses_join.Goals as goal

pub returns : goal.returns
returns c = uses_join
