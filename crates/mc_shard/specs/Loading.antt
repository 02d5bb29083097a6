-- What is looked at, end by end, of parts that may be a shard's.
use Rattle.std.specs.Prelude.{◌≡◌, ℕ, ◌*◌, ◌<◌, ◌≤◌, length}
use Rattle.mc_shard.specs.Shards.{LaidShard}
use Rattle.mc_shard.specs.States.{count_at}
use Rattle.mc_shard.specs.declared.limit.TheConstants.{SENT_LIMIT}

-- each end has its box and its counts
pub record HaveLengths (shard : LaidShard) : Type 0 where
  pub taken : length shard.state.taken ≡ length shard.state.sent
  pub owners : length shard.owners ≡ length shard.state.sent

-- the counts of an end are within what so many turns can send and take
pub record AreFewAt (shard : LaidShard) (end : ℕ) : Type 0 where
  pub sent : count_at shard.state.sent end ≤ SENT_LIMIT * shard.state.stamp
  pub taken : count_at shard.state.taken end ≤ shard.state.stamp

abbrev pub AreFew : LaidShard → Type 0
AreFew shard = (end : ℕ) → end < length shard.state.sent → AreFewAt shard end
