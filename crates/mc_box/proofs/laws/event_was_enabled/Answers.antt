use Rattle.mc_box.proofs.EventGoes.{event_was_enabled}
use Rattle.mc_box.proofs.laws.event_was_enabled.Goals as goal

pub returns : goal.returns
returns c = event_was_enabled
