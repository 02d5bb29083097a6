use Rattle.mc_settings.proofs.BatchesLeft.{batch_is_left}
use Rattle.mc_settings.proofs.laws.batch_is_left.Goals as goal

pub returns : goal.returns
returns c = batch_is_left
