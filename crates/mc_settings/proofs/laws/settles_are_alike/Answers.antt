use Rattle.mc_settings.proofs.BatchesLeft.{settles_are_alike}
use Rattle.mc_settings.proofs.laws.settles_are_alike.Goals as goal

pub returns : goal.returns
returns c = settles_are_alike
