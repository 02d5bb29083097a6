use Rattle.mc_live_settle.proofs.BehindLeft.{stopped_behind_left}
use Rattle.mc_live_settle.proofs.laws.stopped_behind_left.Goals as goal

pub returns : goal.returns
returns c = stopped_behind_left
