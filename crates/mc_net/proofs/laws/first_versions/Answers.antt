use Rattle.mc_net.proofs.Versions.{first_versions}
use Rattle.mc_net.proofs.laws.first_versions.Goals as goal

pub returns : goal.returns
returns c = first_versions
