use Rattle.mc_shard_laws.proofs.Sound.{next_is_lawful}
use Rattle.mc_shard_laws.proofs.laws.next_is_lawful.Goals as goal

pub returns : goal.returns
returns c = next_is_lawful
