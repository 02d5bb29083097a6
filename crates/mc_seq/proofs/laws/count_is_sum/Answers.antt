use Rattle.mc_seq.proofs.Kth.{count_is}
use Rattle.mc_seq.proofs.laws.count_is_sum.Goals as goal

pub returns : goal.returns
returns c = count_is
