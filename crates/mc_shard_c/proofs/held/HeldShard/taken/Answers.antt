use Rattle.std.proofs.Common.{◌≤◌, length, arith, subst}
use Rattle.mc_shard.specs.Shards.{LaidShard}
use Rattle.mc_shard_c.specs.Saving.WhyNotTold.{waits, no_end}
use Rattle.mc_shard_c.proofs.held.HeldShard.taken.Goals as goal

pub returns-then-not-is_free-clause-why_not : goal.returns-then-not-is_free-clause-why_not
returns-then-not-is_free-clause-why_not c = λ _. waits c.if-not-is_free.ensures

pub returns-then-len-end-clause-why_not : goal.returns-then-len-end-clause-why_not
returns-then-len-end-clause-why_not c = λ _.
    let past : length c.parts.result.now.taken.items ≤ c.args.end = omega (arith, c.len.ensures, c.if-len-end.true) in
    no_end (c.if-not-is_free.ensures, subst (λ (s : LaidShard). length s.state.taken ≤ c.args.end) c.parts.ensures past)
