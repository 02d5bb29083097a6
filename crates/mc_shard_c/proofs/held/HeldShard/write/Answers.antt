use Rattle.mc_shard_c.specs.Handles.{writer_of}
use Rattle.mc_shard_c.specs.Turns.WhyNotWritten.{none_waits}
use Rattle.mc_shard_c.proofs.Written.{put_why}
use Rattle.mc_shard_c.proofs.held.HeldShard.write.Goals as goal

pub returns-in-None-clause-why_not : goal.returns-in-None-clause-why_not
returns-in-None-clause-why_not c = λ _. none_waits c.in-None.is

pub returns-in-Some-clause-why_not : goal.returns-in-Some-clause-why_not
returns-in-Some-clause-why_not c = λ off. put_why (writer_of c.args.self.now) c.in-Some.entry _ _ c.in-Some.is (c.write_into.ensures.why_not off)
