use Rattle.mc_grown_laws.proofs.JoinedPaths.{joined_paths}
use Rattle.mc_grown_laws.proofs.joined_paths.Goals as goal

pub returns : goal.returns
returns c = joined_paths
