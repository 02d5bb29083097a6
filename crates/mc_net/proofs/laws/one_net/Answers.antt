use Rattle.mc_net.proofs.OneNet.{one_declared, one_first_world, one_net}
use Rattle.mc_net.proofs.laws.one_net.Goals as goal

pub returns : goal.returns
returns c = record { declared = one_declared; world = one_first_world; net = one_net }
