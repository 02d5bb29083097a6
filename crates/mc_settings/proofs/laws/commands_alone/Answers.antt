use Rattle.mc_settings.proofs.CommandedWorlds.{commands_alone}
use Rattle.mc_settings.proofs.laws.commands_alone.Goals as goal

pub returns : goal.returns
returns c = commands_alone
