use Rattle.mc_growth.proofs.Outs.{paths_are_whole}
use Rattle.mc_growth.proofs.laws.paths_are_whole.Goals as goal

pub returns : goal.returns
returns c = paths_are_whole
