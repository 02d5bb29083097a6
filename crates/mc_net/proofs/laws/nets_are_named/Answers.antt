use Rattle.mc_net.proofs.MadeNets.{nets_are_named}
use Rattle.mc_net.proofs.laws.nets_are_named.Goals as goal

pub returns : goal.returns
returns c = nets_are_named
