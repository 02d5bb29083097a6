use Rattle.mc_merge.proofs.Order.{runs_in_order}
use Rattle.mc_merge.proofs.laws.runs_in_order.Goals as goal

pub returns : goal.returns
returns c = runs_in_order
