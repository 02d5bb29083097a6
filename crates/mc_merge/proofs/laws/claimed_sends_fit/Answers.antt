use Rattle.mc_merge.proofs.ClaimedStamps.{claimed_sends_fit}
use Rattle.mc_merge.proofs.laws.claimed_sends_fit.Goals as goal

pub returns : goal.returns
returns c = claimed_sends_fit
