use Rattle.std.proofs.Common.{arith}
use Rattle.mc_shard.proofs.Owned.{slots_all, slots_more}
use Rattle.mc_shard.proofs.places.all_own.Goals as goal

pub loop-slot-preserved : goal.loop-slot-preserved
loop-slot-preserved c = slots_more c.args.owners.now c.args.who c.args.list.now.items c.loop-slot.slot c.index.result.now c.index.ensures c.if-not-is_own.ensures c.loop-slot.invariant

pub returns : goal.returns
returns c = slots_all c.args.owners.now c.args.who c.args.list.now.items c.loop-slot.slot (omega (arith, c.len-slot-end.ensures, c.loop-slot-test.false)) c.loop-slot.invariant
