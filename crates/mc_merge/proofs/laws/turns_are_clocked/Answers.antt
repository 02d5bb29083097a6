use Rattle.mc_merge.proofs.ClockJoins.{turns_are_clocked}
use Rattle.mc_merge.proofs.laws.turns_are_clocked.Goals as goal

pub returns : goal.returns
returns c = turns_are_clocked
