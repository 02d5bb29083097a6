use Rattle.mc_net.proofs.Followed.{journals_may_follow}
use Rattle.mc_net.proofs.laws.journals_may_follow.Goals as goal

pub returns : goal.returns
returns c = journals_may_follow
