use Rattle.mc_live_settle.proofs.BehindLeft.{settled_behind_left}
use Rattle.mc_live_settle.proofs.laws.settled_behind_left.Goals as goal

pub returns : goal.returns
returns c = settled_behind_left
