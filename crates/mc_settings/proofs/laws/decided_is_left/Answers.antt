use Rattle.mc_settings.proofs.BatchesLeft.{decided_is_left}
use Rattle.mc_settings.proofs.laws.decided_is_left.Goals as goal

pub returns : goal.returns
returns c = decided_is_left
