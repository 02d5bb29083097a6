use Rattle.mc_link.proofs.LinkThree.{link_sends_three}
use Rattle.mc_link.proofs.laws.link_sends_three.Goals as goal

pub returns : goal.returns
returns c = link_sends_three
