use Rattle.mc_shard_laws.proofs.Worked.{worked_shards}
use Rattle.mc_shard_laws.proofs.laws.worked_shards.Goals as goal

pub returns : goal.returns
returns c = worked_shards
