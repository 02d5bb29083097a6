use Rattle.mc_laws.proofs.NoPrograms.{run_makes_no_shift}
use Rattle.mc_laws.proofs.laws.run_makes_no_shift.Goals as goal

pub returns : goal.returns
returns c = run_makes_no_shift
