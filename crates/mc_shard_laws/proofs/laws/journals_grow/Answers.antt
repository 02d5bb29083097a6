use Rattle.mc_shard_laws.proofs.Growth.{journals_grow}
use Rattle.mc_shard_laws.proofs.laws.journals_grow.Goals as goal

pub returns : goal.returns
returns c = journals_grow
