use Rattle.mc_net.proofs.Faults.{declares_or_faults}
use Rattle.mc_net.proofs.laws.declares_or_faults.Goals as goal

pub returns : goal.returns
returns c = declares_or_faults
