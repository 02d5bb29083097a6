use Rattle.mc_laws.proofs.CommandsGo.{retry_goes}
use Rattle.mc_laws.proofs.laws.retry_goes.Goals as goal

pub returns : goal.returns
returns c = retry_goes
