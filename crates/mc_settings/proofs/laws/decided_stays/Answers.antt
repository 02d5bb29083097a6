use Rattle.mc_settings.proofs.BatchesLeft.{decided_stays}
use Rattle.mc_settings.proofs.laws.decided_stays.Goals as goal

pub returns : goal.returns
returns c = decided_stays
