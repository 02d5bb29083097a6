use Rattle.mc_shard_laws.proofs.Growth.{taken_from_cut}
use Rattle.mc_shard_laws.proofs.laws.taken_from_cut.Goals as goal

pub returns : goal.returns
returns c = taken_from_cut
