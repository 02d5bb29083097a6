use Rattle.mc_livetop.proofs.Shows.{one_settles}
use Rattle.mc_livetop.proofs.laws.one_operator_settles_batches.Goals as goal

pub returns : goal.returns
returns c = one_settles
