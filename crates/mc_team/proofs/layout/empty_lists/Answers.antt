use Rattle.mc_team.proofs.Pushed.{empty_lists_more}
use Rattle.mc_team.proofs.layout.empty_lists.Goals as goal

pub loop-done-preserved : goal.loop-done-preserved
loop-done-preserved g c = rw c.in_ok-push.ensures.items (empty_lists_more c.loop-done.lists.items c.new.result c.loop-done._done c.loop-done.invariant c.new.ensures.items)
