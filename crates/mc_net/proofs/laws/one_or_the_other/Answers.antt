use Rattle.mc_net.proofs.Faults.{one_or_the_other}
use Rattle.mc_net.proofs.laws.one_or_the_other.Goals as goal

pub returns : goal.returns
returns c = one_or_the_other
