use Rattle.mc_path_laws.proofs.OneMedium.{paths_of_one_medium}
use Rattle.mc_path_laws.proofs.laws.paths_of_one_medium.Goals as goal

pub returns : goal.returns
returns c = paths_of_one_medium
