use Rattle.mc_net.proofs.TextEnds.{lines_behind}
use Rattle.mc_net.proofs.laws.lines_behind.Goals as goal

pub returns : goal.returns
returns c = lines_behind
