use Rattle.mc_merge.proofs.Joins.{parts_join}
use Rattle.mc_merge.proofs.laws.parts_join.Goals as goal

pub returns : goal.returns
returns c = parts_join
