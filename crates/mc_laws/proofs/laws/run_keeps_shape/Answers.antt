use Rattle.mc_laws.proofs.ShapesKept.{run_keeps_shape}
use Rattle.mc_laws.proofs.laws.run_keeps_shape.Goals as goal

pub returns : goal.returns
returns c = run_keeps_shape
