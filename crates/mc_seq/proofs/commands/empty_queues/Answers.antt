use Rattle.mc_seq.proofs.LeftCommands.{queue_more}
use Rattle.mc_seq.proofs.commands.empty_queues.Goals as goal

pub loop-done-preserved : goal.loop-done-preserved
loop-done-preserved c = rw c.in_ok-push.ensures.items (queue_more c.loop-done.queues.items c.new.result c.loop-done._done c.loop-done.invariant c.new.ensures.items)
