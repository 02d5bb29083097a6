use Rattle.mc_box.proofs.Events.{event_sends_twice}
use Rattle.mc_box.proofs.laws.event_sends_twice.Goals as goal

pub returns : goal.returns
returns c = event_sends_twice
