-- Shards keep a world sound, and the next of each lane may be taken.
use Rattle.mc_merge.proofs.Fronts.{fronts_are_lawful}
use Rattle.mc_merge.proofs.Merging.{merge_keeps_sound}
use Rattle.mc_shard_laws.specs.Sound.{NextIsLawful, ShardsKeepSound}
use Rattle.mc_shard_laws.proofs.Together.{shards_are_logged}

pub shards_keep_sound : ShardsKeepSound
shards_keep_sound world homes shards logs boxes rests are sound = merge_keeps_sound world logs boxes rests (shards_are_logged world homes shards logs boxes rests are) sound

pub next_is_lawful : NextIsLawful
next_is_lawful world homes shards logs boxes rests are sound = fronts_are_lawful world logs boxes rests (shards_are_logged world homes shards logs boxes rests are) sound
