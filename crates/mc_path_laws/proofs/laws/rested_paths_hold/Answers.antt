use Rattle.mc_path_laws.proofs.SettledHold.{rested_paths_hold}
use Rattle.mc_path_laws.proofs.laws.rested_paths_hold.Goals as goal

pub returns : goal.returns
returns c = rested_paths_hold
