use Rattle.mc_shard_laws.proofs.Digests.{next_is_chained}
use Rattle.mc_shard_laws.proofs.laws.next_is_chained.Goals as goal

pub returns : goal.returns
returns c = next_is_chained
