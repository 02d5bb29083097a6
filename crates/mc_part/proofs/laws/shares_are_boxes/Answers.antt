use Rattle.mc_part.proofs.Shares.{shares_are_boxes}
use Rattle.mc_part.proofs.laws.shares_are_boxes.Goals as goal

pub returns : goal.returns
returns c = shares_are_boxes
