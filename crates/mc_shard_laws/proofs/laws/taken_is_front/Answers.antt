use Rattle.mc_shard_laws.proofs.Lanes.{taken_is_front}
use Rattle.mc_shard_laws.proofs.laws.taken_is_front.Goals as goal

pub returns : goal.returns
returns c = taken_is_front
