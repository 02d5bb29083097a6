use Rattle.mc_settings.proofs.BatchesLeft.{stopped_uses_up}
use Rattle.mc_settings.proofs.laws.stopped_uses_up.Goals as goal

pub returns : goal.returns
returns c = stopped_uses_up
