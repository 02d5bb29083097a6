use Rattle.mc_box.proofs.EventGoes.{event_goes}
use Rattle.mc_box.proofs.laws.event_goes.Goals as goal

pub returns : goal.returns
returns c = event_goes
