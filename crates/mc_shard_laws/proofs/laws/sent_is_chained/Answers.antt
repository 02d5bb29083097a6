use Rattle.mc_shard_laws.proofs.Digests.{sent_is_chained}
use Rattle.mc_shard_laws.proofs.laws.sent_is_chained.Goals as goal

pub returns : goal.returns
returns c = sent_is_chained
