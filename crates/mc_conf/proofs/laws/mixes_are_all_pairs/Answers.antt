use Rattle.mc_conf.proofs.AllPairs.{all_pairs}
use Rattle.mc_conf.proofs.laws.mixes_are_all_pairs.Goals as goal

pub returns : goal.returns
returns c = all_pairs
