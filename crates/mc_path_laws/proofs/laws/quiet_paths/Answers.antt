use Rattle.mc_path_laws.proofs.Quiet.{quiet_paths}
use Rattle.mc_path_laws.proofs.laws.quiet_paths.Goals as goal

pub returns : goal.returns
returns c = quiet_paths
