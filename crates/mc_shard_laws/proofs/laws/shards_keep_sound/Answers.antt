use Rattle.mc_shard_laws.proofs.Sound.{shards_keep_sound}
use Rattle.mc_shard_laws.proofs.laws.shards_keep_sound.Goals as goal

pub returns : goal.returns
returns c = shards_keep_sound
