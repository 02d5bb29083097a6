use Rattle.std.proofs.Common.{rules, vec_capacity, vec_len}
use Rattle.mc_merge.proofs.Weaves.{goes_on_read, smaller, under_way}
use Rattle.mc_merge.proofs.merged.merge_all.Goals as goal

pub loop-next-init : goal.loop-next-init
loop-next-init c = under_way c.args.logs.now c.args.turns.now.items _ _ c.requires.known c.requires.climb c.requires.written c.requires.room

pub loop-next-smaller : goal.loop-next-smaller
loop-next-smaller c =
    smaller c.loop-next.logs c.loop-next.turns.items c.take_log.new.turns.items c.in-Some.next c.index-logs-next.result c.take_log.new.log c.in-Some.ensures c.index-logs-next.is
    c.take_log.ensures.takes c.take_log.ensures.clock c.take_log.ensures.stops

pub loop-next-preserved : goal.loop-next-preserved
loop-next-preserved c =
    goes_on_read c.args.logs.now c.loop-next.logs c.args.turns.now.items c.loop-next.turns.items c.take_log.new.turns.items (vec_len c.loop-next.turns) (vec_len c.take_log.new.turns)
    (vec_capacity c.loop-next.turns) (vec_capacity c.take_log.new.turns) c.in-Some.next c.index-logs-next.result c.take_log.new.log (search rules) (search rules) c.take_log.ensures.capacity
    c.loop-next.invariant c.in-Some.ensures c.index-logs-next.is c.take_log.ensures.takes c.take_log.ensures.numbers c.take_log.ensures.clock c.take_log.ensures.written
