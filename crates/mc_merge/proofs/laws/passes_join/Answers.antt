use Rattle.mc_merge.proofs.Passing.{passes_join}
use Rattle.mc_merge.proofs.laws.passes_join.Goals as goal

pub returns : goal.returns
returns c = passes_join
