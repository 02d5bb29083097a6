use Rattle.mc_net.proofs.FirstPrograms.{unprogrammed_texts}
use Rattle.mc_net.proofs.laws.unprogrammed_texts.Goals as goal

pub returns : goal.returns
returns c = unprogrammed_texts
