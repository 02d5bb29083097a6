use Rattle.mc_shard_laws.proofs.Growth.{journals_split}
use Rattle.mc_shard_laws.proofs.laws.journals_split.Goals as goal

pub returns : goal.returns
returns c = journals_split
