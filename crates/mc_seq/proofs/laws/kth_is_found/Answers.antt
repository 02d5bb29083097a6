use Rattle.mc_seq.proofs.Kth.{kth_is}
use Rattle.mc_seq.proofs.laws.kth_is_found.Goals as goal

pub returns : goal.returns
returns c = kth_is
