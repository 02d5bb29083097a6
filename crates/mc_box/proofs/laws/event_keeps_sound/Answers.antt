use Rattle.mc_box.proofs.Events.{event_keeps_sound}
use Rattle.mc_box.proofs.laws.event_keeps_sound.Goals as goal

pub returns : goal.returns
returns c = event_keeps_sound
