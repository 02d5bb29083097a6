use Rattle.mc_stages.proofs.SettlesHold.{settles_hold}
use Rattle.mc_stages.proofs.laws.settles_hold.Goals as goal

pub returns : goal.returns
returns c = settles_hold
