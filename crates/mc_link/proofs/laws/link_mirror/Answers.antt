use Rattle.mc_link.proofs.Mirror.{link_mirror}
use Rattle.mc_link.proofs.laws.link_mirror.Goals as goal

pub returns : goal.returns
returns c = link_mirror
