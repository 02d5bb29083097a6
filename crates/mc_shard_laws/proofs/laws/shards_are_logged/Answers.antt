use Rattle.mc_shard_laws.proofs.Together.{shards_are_logged}
use Rattle.mc_shard_laws.proofs.laws.shards_are_logged.Goals as goal

pub returns : goal.returns
returns c = shards_are_logged
