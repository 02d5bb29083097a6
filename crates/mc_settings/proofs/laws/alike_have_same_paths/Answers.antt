use Rattle.mc_settings.proofs.SamePaths.{alike_have_same_paths}
use Rattle.mc_settings.proofs.laws.alike_have_same_paths.Goals as goal

pub returns : goal.returns
returns c = alike_have_same_paths
