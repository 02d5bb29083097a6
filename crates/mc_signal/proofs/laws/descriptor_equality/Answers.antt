use Rattle.mc_signal.proofs.Equal.{descriptor_equality}
use Rattle.mc_signal.proofs.laws.descriptor_equality.Goals as goal

pub returns : goal.returns
returns c = descriptor_equality
