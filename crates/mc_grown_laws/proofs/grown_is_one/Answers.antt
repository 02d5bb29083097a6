use Rattle.mc_grown_laws.proofs.GrownRuns.{grown_is_one}
use Rattle.mc_grown_laws.proofs.grown_is_one.Goals as goal

pub returns : goal.returns
returns c = grown_is_one
