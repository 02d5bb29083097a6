use Rattle.mc_laws.proofs.Lowers.{measure_bound}
use Rattle.mc_laws.proofs.laws.measure_bound.Goals as goal

pub returns : goal.returns
returns c = measure_bound
