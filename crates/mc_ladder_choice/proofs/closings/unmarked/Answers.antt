use Rattle.mc_ladder_choice.proofs.Marked.{unmarked_more}
use Rattle.mc_ladder_choice.proofs.closings.unmarked.Goals as goal

pub loop-done-preserved : goal.loop-done-preserved
loop-done-preserved c = unmarked_more c.loop-done._done c.loop-done.marks.items c.push.new.self.items c.loop-done.invariant c.in_ok-push.ensures.items
