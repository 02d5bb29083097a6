use Rattle.mc_merge.proofs.ClockJoins.{clocks_join}
use Rattle.mc_merge.proofs.laws.clocks_join.Goals as goal

pub returns : goal.returns
returns c = clocks_join
