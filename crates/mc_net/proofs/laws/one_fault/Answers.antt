use Rattle.mc_net.proofs.Faults.{one_fault}
use Rattle.mc_net.proofs.laws.one_fault.Goals as goal

pub returns : goal.returns
returns c = one_fault
