use Rattle.mc_growth.proofs.Outs.{present_paths_hold}
use Rattle.mc_growth.proofs.laws.present_paths_hold.Goals as goal

pub returns : goal.returns
returns c = present_paths_hold
