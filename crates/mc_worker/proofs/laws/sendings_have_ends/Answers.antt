use Rattle.mc_worker.proofs.HaveEnds.{sendings_have_ends}
use Rattle.mc_worker.proofs.laws.sendings_have_ends.Goals as goal

pub returns : goal.returns
returns c = sendings_have_ends
