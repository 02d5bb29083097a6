use Rattle.mc_shard_c.specs.Waiting.WhyNoStamp.{waits}
use Rattle.mc_shard_c.proofs.held.HeldShard.stamp.Goals as goal

pub returns-then-not-is_free-clause-why_not : goal.returns-then-not-is_free-clause-why_not
returns-then-not-is_free-clause-why_not c = λ _. waits c.if-not-is_free.ensures
