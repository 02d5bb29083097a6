use Rattle.std.proofs.Common.{arith}
use Rattle.mc_merge.proofs.Nexts.{next_more}
use Rattle.mc_merge.proofs.merged.next_log.Goals as goal

pub loop-part-preserved : goal.loop-part-preserved
loop-part-preserved c =
    next_more c.args.logs.now c.loop-part.part c.index-logs-part.result c.loop-part.best c.sooner-best.result c.front.result (omega arith) c.index-logs-part.is c.front.ensures.item
    c.sooner-best.ensures.fits c.sooner-best.ensures.sooner c.loop-part.invariant
