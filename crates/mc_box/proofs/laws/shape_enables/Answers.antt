use Rattle.mc_box.proofs.ShapeEnables.{shape_enables}
use Rattle.mc_box.proofs.laws.shape_enables.Goals as goal

pub returns : goal.returns
returns c = shape_enables
