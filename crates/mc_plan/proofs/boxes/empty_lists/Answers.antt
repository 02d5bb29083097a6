use Rattle.mc_plan.proofs.Filled.{list_more}
use Rattle.mc_plan.proofs.boxes.empty_lists.Goals as goal

pub loop-done-preserved : goal.loop-done-preserved
loop-done-preserved c = rw c.in_ok-push.ensures.items (list_more c.loop-done.lists.items c.new.result c.loop-done._done c.loop-done.invariant c.new.ensures.items)
