use Rattle.mc_settings.proofs.Following.{runs_follow_commands}
use Rattle.mc_settings.proofs.laws.runs_follow_commands.Goals as goal

pub returns : goal.returns
returns c = runs_follow_commands
