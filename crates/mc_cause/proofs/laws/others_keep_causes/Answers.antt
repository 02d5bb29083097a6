use Rattle.mc_cause.proofs.Others.{others_keep_causes}
use Rattle.mc_cause.proofs.laws.others_keep_causes.Goals as goal

pub returns : goal.returns
returns c = others_keep_causes
