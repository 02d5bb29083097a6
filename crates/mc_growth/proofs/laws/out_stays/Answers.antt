use Rattle.mc_growth.proofs.OutStays.{out_stays}
use Rattle.mc_growth.proofs.laws.out_stays.Goals as goal

pub returns : goal.returns
returns c = out_stays
