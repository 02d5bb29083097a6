use Rattle.mc_cause.proofs.Worked.{worked_causes}
use Rattle.mc_cause.proofs.laws.worked_causes.Goals as goal

pub returns : goal.returns
returns c = worked_causes
