use Rattle.mc_top.proofs.EndsAlike.{good_is_not_refused}
use Rattle.mc_top.proofs.laws.good_is_not_refused.Goals as goal

pub returns : goal.returns
returns c = good_is_not_refused
