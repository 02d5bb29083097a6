use Rattle.mc_growth.proofs.Outs.{join_keeps_out}
use Rattle.mc_growth.proofs.laws.join_keeps_out.Goals as goal

pub returns : goal.returns
returns c = join_keeps_out
