use Rattle.mc_merge.proofs.Claims.{own_events}
use Rattle.mc_merge.proofs.laws.own_events.Goals as goal

pub returns : goal.returns
returns c = own_events
