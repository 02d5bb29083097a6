use Rattle.mc_seq.proofs.Shifts.{rounds_are_few}
use Rattle.mc_seq.proofs.laws.rounds_are_few.Goals as goal

pub returns : goal.returns
returns c = rounds_are_few
