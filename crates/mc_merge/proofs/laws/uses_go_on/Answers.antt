use Rattle.mc_merge.proofs.Usage.{uses_go_on}
use Rattle.mc_merge.proofs.laws.uses_go_on.Goals as goal

pub returns : goal.returns
returns c = uses_go_on
