use Rattle.mc_laws.proofs.Lowers.{takes_end}
use Rattle.mc_laws.proofs.laws.takes_end.Goals as goal

pub returns : goal.returns
returns c = takes_end
