use Rattle.mc_merge.proofs.Phases.{none_strange}
use Rattle.mc_merge.proofs.laws.none_strange.Goals as goal

pub returns : goal.returns
returns c = none_strange
