use Rattle.mc_settings.proofs.BatchesLeft.{no_ring_is_met}
use Rattle.mc_settings.proofs.laws.no_ring_is_met.Goals as goal

pub returns : goal.returns
returns c = no_ring_is_met
