use Rattle.mc_shard.specs.Shards.{shard_of}
use Rattle.mc_shard.proofs.Growing.{replayed_more}
use Rattle.mc_shard.proofs.parts.ShardParts.replay.Goals as goal

pub loop-index-preserved : goal.loop-index-preserved
loop-index-preserved c =
    let more = replayed_more (shard_of c.args.self.now) (shard_of c.loop-index.self) (shard_of c.replay_one.new.self) c.args.journal.now c.loop-index.index c.index-journal-index.result c.loop-index.invariant.journal c.loop-index.invariant.after c.in_default.ensures.ok c.loop-index-test.true c.index-journal-index.is in
    record { shaped = c.replay_one.ensures.shaped; journal = more.0; after = more.1 }
