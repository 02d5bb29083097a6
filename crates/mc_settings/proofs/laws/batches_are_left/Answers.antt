use Rattle.mc_settings.proofs.BatchesLeft.{batches_are_left}
use Rattle.mc_settings.proofs.laws.batches_are_left.Goals as goal

pub returns : goal.returns
returns c = batches_are_left
