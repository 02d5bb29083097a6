use Rattle.mc_merge.proofs.OwnOrder.{own_in_order}
use Rattle.mc_merge.proofs.laws.own_in_order.Goals as goal

pub returns : goal.returns
returns c = own_in_order
