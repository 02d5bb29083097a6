use Rattle.std.proofs.Common.{refl}
use Rattle.mc_shard_c.specs.Handles.{writer_of}
use Rattle.mc_shard_c.specs.Saving.WhyNoSnapshot.{waits}
use Rattle.mc_shard_c.proofs.Saved.{saved_why}
use Rattle.mc_shard_c.proofs.held.HeldShard.save.Goals as goal

pub returns-then-not-is_free-clause-why_not : goal.returns-then-not-is_free-clause-why_not
returns-then-not-is_free-clause-why_not c = λ _. waits c.if-not-is_free.ensures refl

pub returns-clause-why_not : goal.returns-clause-why_not
returns-clause-why_not c = λ off. saved_why (writer_of c.args.self.now) _ _ _ c.if-not-is_free.ensures (c.save_into.ensures.why_not off)
