use Rattle.mc_merge.proofs.ClockJoins.{rings_are_clocked}
use Rattle.mc_merge.proofs.laws.rings_are_clocked.Goals as goal

pub returns : goal.returns
returns c = rings_are_clocked
