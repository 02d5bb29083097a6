use Rattle.mc_settings.proofs.AlikeWorlds.{commands_keep_alike}
use Rattle.mc_settings.proofs.laws.commands_keep_alike.Goals as goal

pub returns : goal.returns
returns c = commands_keep_alike
