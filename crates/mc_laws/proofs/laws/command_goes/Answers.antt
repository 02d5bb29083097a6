use Rattle.mc_laws.proofs.CommandsGo.{command_goes}
use Rattle.mc_laws.proofs.laws.command_goes.Goals as goal

pub returns : goal.returns
returns c = command_goes
