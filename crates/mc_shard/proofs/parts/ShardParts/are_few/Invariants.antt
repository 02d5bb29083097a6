use Rattle.std.proofs.Common.{◌<◌, ℕ}
use Rattle.mc_shard.specs.Loading.{AreFewAt}
use Rattle.mc_shard.specs.Shards.{shard_of}
use Rattle.mc_shard.proofs.parts.ShardParts.are_few.Given as goal

-- the ends before have few
abbrev pub invariant-loop-end : goal.invariant-loop-end
invariant-loop-end l = (end : ℕ) → end < l.end → AreFewAt (shard_of l.self) end
