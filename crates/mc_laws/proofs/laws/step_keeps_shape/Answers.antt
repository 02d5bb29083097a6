use Rattle.mc_laws.proofs.ShapesKept.{step_keeps_shape}
use Rattle.mc_laws.proofs.laws.step_keeps_shape.Goals as goal

pub returns : goal.returns
returns c = step_keeps_shape
