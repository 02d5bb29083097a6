use Rattle.mc_laws.proofs.RingWalks.{rings_meet_no_end}
use Rattle.mc_laws.proofs.laws.rings_meet_no_end.Goals as goal

pub returns : goal.returns
returns c = rings_meet_no_end
