use Rattle.mc_part.proofs.Networks.{parts_go_on}
use Rattle.mc_part.proofs.laws.parts_go_on.Goals as goal

pub returns : goal.returns
returns c = parts_go_on
