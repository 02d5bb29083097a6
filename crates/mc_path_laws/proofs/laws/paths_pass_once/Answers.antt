use Rattle.mc_path_laws.proofs.Repeats.{paths_pass_once}
use Rattle.mc_path_laws.proofs.laws.paths_pass_once.Goals as goal

pub returns : goal.returns
returns c = paths_pass_once
