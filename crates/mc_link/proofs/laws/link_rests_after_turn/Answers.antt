use Rattle.mc_link.proofs.LinkRests.{link_rests}
use Rattle.mc_link.proofs.laws.link_rests_after_turn.Goals as goal

pub returns : goal.returns
returns c = link_rests
