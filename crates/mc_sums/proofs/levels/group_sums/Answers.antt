use Rattle.std.proofs.Common.{arith}
use Rattle.mc_sums.proofs.TreeBuilds.{group_pushed, groups_all}
use Rattle.mc_sums.proofs.levels.group_sums.Goals as goal

pub loop-group-preserved : goal.loop-group-preserved
loop-group-preserved c =
    group_pushed c.args.level.now c.loop-group.above.items c.push.new.self.items c.loop-group.group c.group_sum.result c.loop-group.invariant c.group_sum.ensures c.in_ok-push.ensures.items

pub returns : goal.returns
returns c =
    groups_all c.args.level.now c.loop-group.above.items c.loop-group.group c.div_ceil-group-end.result c.div_ceil-group-end.ensures (omega arith) c.loop-group.invariant
