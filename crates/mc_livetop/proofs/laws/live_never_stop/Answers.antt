use Rattle.mc_livetop.proofs.NeverStop.{never_shown}
use Rattle.mc_livetop.proofs.laws.live_never_stop.Goals as goal

pub returns : goal.returns
returns c = never_shown
