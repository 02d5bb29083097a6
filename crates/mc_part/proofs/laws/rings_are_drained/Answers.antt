use Rattle.mc_part.proofs.Draining.{rings_are_drained}
use Rattle.mc_part.proofs.laws.rings_are_drained.Goals as goal

pub returns : goal.returns
returns c = rings_are_drained
