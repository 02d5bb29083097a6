use Rattle.std.proofs.Common.{◌≡◌, take}
use Rattle.mc_shard.specs.Shards.{IsShaped, shard_of}
use Rattle.mc_shard.specs.States.{IsJournal, state_after}
use Rattle.mc_shard.proofs.parts.ShardParts.replay.Given as goal

-- the entries so far are a journal, and the shard is as it tells
abbrev pub invariant-loop-index : goal.invariant-loop-index
invariant-loop-index l = record {
  shaped : IsShaped (shard_of l.self);
  journal : IsJournal l.initial.self.places.items (shard_of l.initial.self).state (take l.index l.journal);
  after : shard_of l.self ≡ record (shard_of l.initial.self) { state = state_after (shard_of l.initial.self).state (take l.index l.journal) };
}
