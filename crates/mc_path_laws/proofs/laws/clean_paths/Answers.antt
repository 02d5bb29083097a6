use Rattle.mc_path_laws.proofs.CleanPaths.{clean_paths}
use Rattle.mc_path_laws.proofs.laws.clean_paths.Goals as goal

pub returns : goal.returns
returns c = clean_paths
