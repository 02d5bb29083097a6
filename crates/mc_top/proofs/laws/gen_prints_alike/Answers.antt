use Rattle.mc_top.proofs.GenAlike.{gen_prints_alike}
use Rattle.mc_top.proofs.laws.gen_prints_alike.Goals as goal

pub returns : goal.returns
returns c = gen_prints_alike
