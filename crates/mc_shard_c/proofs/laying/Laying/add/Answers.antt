use Rattle.std.proofs.Common.{rules}
use Rattle.mc_shard_c.proofs.laying.Laying.add.Goals as goal

pub returns-clause-boxes : goal.returns-clause-boxes
returns-clause-boxes c = record { box = c.in_ok-part.part; says = c.in_ok-part.ensures.says; is = search rules }
