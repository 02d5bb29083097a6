use Rattle.mc_live.proofs.Ends.{ends_are_all}
use Rattle.mc_live.proofs.laws.ends_are_all.Goals as goal

pub returns : goal.returns
returns c = ends_are_all
