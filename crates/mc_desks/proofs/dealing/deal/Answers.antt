use Rattle.mc_desks.proofs.DealtSoFar.{dealing_more}
use Rattle.mc_desks.proofs.dealing.deal.Goals as goal

pub loop-pass-preserved : goal.loop-pass-preserved
loop-pass-preserved c = dealing_more _ _ _ _ _ _ _ _ c.loop-pass.invariant c.in-Some.ensures.steps.0 c.in_ok-give.ensures
