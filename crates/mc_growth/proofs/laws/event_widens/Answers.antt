use Rattle.mc_growth.proofs.WideBoxes.{event_widens}
use Rattle.mc_growth.proofs.laws.event_widens.Goals as goal

pub returns : goal.returns
returns c = event_widens
