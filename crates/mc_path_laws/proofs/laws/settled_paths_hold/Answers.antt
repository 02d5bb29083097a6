use Rattle.mc_path_laws.proofs.SettledHold.{settled_paths_hold}
use Rattle.mc_path_laws.proofs.laws.settled_paths_hold.Goals as goal

pub returns : goal.returns
returns c = settled_paths_hold
