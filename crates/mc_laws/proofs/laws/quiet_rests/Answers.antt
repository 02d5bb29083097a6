use Rattle.mc_laws.proofs.NoPrograms.{quiet_rests}
use Rattle.mc_laws.proofs.laws.quiet_rests.Goals as goal

pub returns : goal.returns
returns c = quiet_rests
