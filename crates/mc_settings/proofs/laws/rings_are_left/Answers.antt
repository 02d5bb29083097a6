use Rattle.mc_settings.proofs.BatchesLeft.{rings_are_left}
use Rattle.mc_settings.proofs.laws.rings_are_left.Goals as goal

pub returns : goal.returns
returns c = rings_are_left
