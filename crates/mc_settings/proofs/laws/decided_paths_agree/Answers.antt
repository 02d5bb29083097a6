use Rattle.mc_settings.proofs.Agreeing.{decided_paths_agree}
use Rattle.mc_settings.proofs.laws.decided_paths_agree.Goals as goal

pub returns : goal.returns
returns c = decided_paths_agree
