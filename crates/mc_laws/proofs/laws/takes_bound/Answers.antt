use Rattle.mc_laws.proofs.Lowers.{takes_bound}
use Rattle.mc_laws.proofs.laws.takes_bound.Goals as goal

pub returns : goal.returns
returns c = takes_bound
