use Rattle.mc_live_settle.proofs.BehindLeft.{settles_what_is_used}
use Rattle.mc_live_settle.proofs.laws.settles_what_is_used.Goals as goal

pub returns : goal.returns
returns c = settles_what_is_used
