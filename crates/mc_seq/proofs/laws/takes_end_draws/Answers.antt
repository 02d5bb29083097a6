use Rattle.mc_seq.proofs.DrawsEnd.{takes_end_draws}
use Rattle.mc_seq.proofs.laws.takes_end_draws.Goals as goal

pub returns : goal.returns
returns c = takes_end_draws
