use Rattle.mc_growth.proofs.Outs.{cut_keeps_out}
use Rattle.mc_growth.proofs.laws.cut_keeps_out.Goals as goal

pub returns : goal.returns
returns c = cut_keeps_out
