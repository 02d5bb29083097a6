use Rattle.mc_laws.proofs.GoalsKept.{rest_keeps_rings}
use Rattle.mc_laws.proofs.laws.rest_keeps_rings.Goals as goal

pub returns : goal.returns
returns c = rest_keeps_rings
