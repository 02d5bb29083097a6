use Rattle.mc_laws.proofs.Chains.{rings_are_named}
use Rattle.mc_laws.proofs.laws.rings_are_named.Goals as goal

pub returns : goal.returns
returns c = rings_are_named
