use Rattle.mc_conf.proofs.SameLegs.{same_mixes}
use Rattle.mc_conf.proofs.laws.others_change_nothing.Goals as goal

pub returns : goal.returns
returns c = same_mixes
