use Rattle.mc_live.proofs.Left.{left_is_only}
use Rattle.mc_live.proofs.laws.left_is_only.Goals as goal

pub returns : goal.returns
returns c = left_is_only
