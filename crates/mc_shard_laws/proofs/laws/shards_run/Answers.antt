use Rattle.mc_shard_laws.proofs.Together.{shards_run}
use Rattle.mc_shard_laws.proofs.laws.shards_run.Goals as goal

pub returns : goal.returns
returns c = shards_run
