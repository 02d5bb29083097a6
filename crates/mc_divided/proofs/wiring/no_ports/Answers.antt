use Rattle.mc_part.proofs.Shares.{empty_lists_more}
use Rattle.mc_divided.proofs.wiring.no_ports.Goals as goal

pub loop-done-preserved : goal.loop-done-preserved
loop-done-preserved c = rw c.in_ok-push.ensures.items (empty_lists_more c.loop-done.ports.items c.new.result c.loop-done._done c.loop-done.invariant c.new.ensures.items)
