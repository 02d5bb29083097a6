use Rattle.mc_seq.proofs.DrawsEnd.{draws_end}
use Rattle.mc_seq.proofs.laws.draws_end.Goals as goal

pub returns : goal.returns
returns c = draws_end
