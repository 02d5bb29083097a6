use Rattle.mc_merge.proofs.Turns.{turns_are_work}
use Rattle.mc_merge.proofs.laws.turns_are_work.Goals as goal

pub returns : goal.returns
returns c = turns_are_work
