use Rattle.mc_part.proofs.Networks.{parts_play}
use Rattle.mc_part.proofs.laws.parts_play.Goals as goal

pub returns : goal.returns
returns c = parts_play
