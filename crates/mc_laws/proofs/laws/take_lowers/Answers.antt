use Rattle.mc_laws.proofs.Lowers.{take_lowers}
use Rattle.mc_laws.proofs.laws.take_lowers.Goals as goal

pub returns : goal.returns
returns c = take_lowers
