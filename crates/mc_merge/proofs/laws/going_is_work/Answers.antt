use Rattle.mc_merge.proofs.Rings.{going_is_work}
use Rattle.mc_merge.proofs.laws.going_is_work.Goals as goal

pub returns : goal.returns
returns c = going_is_work
