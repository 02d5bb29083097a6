use Rattle.mc_merge.proofs.Rings.{coming_is_work}
use Rattle.mc_merge.proofs.laws.coming_is_work.Goals as goal

pub returns : goal.returns
returns c = coming_is_work
