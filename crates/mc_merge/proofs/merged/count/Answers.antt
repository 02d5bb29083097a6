use Rattle.std.proofs.Common.{◌<◌, ◌^◌, ◌+◌, arith}
use Rattle.mc_merge.specs.Weaving.{entry_count, logs_of}
use Rattle.mc_merge.proofs.Nexts.{count_more, count_within}
use Rattle.mc_merge.proofs.merged.count.Goals as goal

pub overflow_add-all : goal.overflow_add-all
overflow_add-all c =
    let more = count_more c.args.logs.now c.loop-log.log-index c.loop-log.all c.len-all.result c.log-item.result (omega arith) c.log-item.is c.len-all.ensures c.loop-log.invariant in
    let within = count_within c.args.logs.now (c.loop-log.log-index + 1) in
    let few : entry_count (logs_of c.args.logs.now) < 2 ^ 32 = c.requires in
    let fits : c.loop-log.all + c.len-all.result < 2 ^ 32 = omega (arith, more, within) in
    omega arith

pub loop-log-preserved : goal.loop-log-preserved
loop-log-preserved c = count_more c.args.logs.now c.loop-log.log-index c.loop-log.all c.len-all.result c.log-item.result (omega arith) c.log-item.is c.len-all.ensures c.loop-log.invariant
