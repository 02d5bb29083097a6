use Rattle.mc_link.proofs.LinkPays.{link_pays}
use Rattle.mc_link.proofs.laws.link_pays.Goals as goal

pub returns : goal.returns
returns c = link_pays
