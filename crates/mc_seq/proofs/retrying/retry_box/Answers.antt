use Rattle.mc_seq.proofs.RetriesMade.{box_more}
use Rattle.mc_seq.proofs.retrying.retry_box.Goals as goal

pub loop-local-preserved : goal.loop-local-preserved
loop-local-preserved c = box_more c.args.settled.now c.loop-local.settled c.retry.new.settled c.args.who c.loop-local.local c.loop-local.invariant c.in_ok-retry.ensures
