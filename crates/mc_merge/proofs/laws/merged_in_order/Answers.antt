use Rattle.mc_merge.proofs.Wholes.{merged_in_order}
use Rattle.mc_merge.proofs.laws.merged_in_order.Goals as goal

pub returns : goal.returns
returns c = merged_in_order
