use Rattle.mc_part.proofs.Leads.{channels_have_boxes}
use Rattle.mc_part.proofs.laws.channels_have_boxes.Goals as goal

pub returns : goal.returns
returns c = channels_have_boxes
