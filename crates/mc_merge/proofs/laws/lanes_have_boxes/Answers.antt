use Rattle.mc_merge.proofs.LaneBoxes.{lanes_have_boxes}
use Rattle.mc_merge.proofs.laws.lanes_have_boxes.Goals as goal

pub returns : goal.returns
returns c = lanes_have_boxes
