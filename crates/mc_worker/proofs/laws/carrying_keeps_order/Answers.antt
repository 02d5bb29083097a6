use Rattle.mc_worker.proofs.BroughtIn.{carrying_keeps_order}
use Rattle.mc_worker.proofs.laws.carrying_keeps_order.Goals as goal

pub returns : goal.returns
returns c = carrying_keeps_order
