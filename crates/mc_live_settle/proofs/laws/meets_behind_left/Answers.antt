use Rattle.mc_live_settle.proofs.BehindLeft.{meets_behind_left}
use Rattle.mc_live_settle.proofs.laws.meets_behind_left.Goals as goal

pub returns : goal.returns
returns c = meets_behind_left
