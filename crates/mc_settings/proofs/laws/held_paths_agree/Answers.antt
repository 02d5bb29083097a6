use Rattle.mc_settings.proofs.Agreeing.{held_paths_agree}
use Rattle.mc_settings.proofs.laws.held_paths_agree.Goals as goal

pub returns : goal.returns
returns c = held_paths_agree
