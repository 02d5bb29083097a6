use Rattle.mc_box.proofs.FromSlots.{event_sends_from_slots}
use Rattle.mc_box.proofs.laws.event_sends_from_slots.Goals as goal

pub returns : goal.returns
returns c = event_sends_from_slots
