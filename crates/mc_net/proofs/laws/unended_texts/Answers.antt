use Rattle.mc_net.proofs.TextEnds.{unended_texts}
use Rattle.mc_net.proofs.laws.unended_texts.Goals as goal

pub returns : goal.returns
returns c = unended_texts
