use Rattle.mc_seq.proofs.Shifts.{shifts_are_few}
use Rattle.mc_seq.proofs.laws.shifts_are_few.Goals as goal

pub returns : goal.returns
returns c = shifts_are_few
