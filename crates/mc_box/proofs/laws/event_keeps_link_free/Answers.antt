use Rattle.mc_box.proofs.LinkFree.{event_keeps_link_free}
use Rattle.mc_box.proofs.laws.event_keeps_link_free.Goals as goal

pub returns : goal.returns
returns c = event_keeps_link_free
