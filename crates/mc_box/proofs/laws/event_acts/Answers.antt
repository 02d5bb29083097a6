use Rattle.mc_box.proofs.EventActs.{event_acts}
use Rattle.mc_box.proofs.laws.event_acts.Goals as goal

pub returns : goal.returns
returns c = event_acts
