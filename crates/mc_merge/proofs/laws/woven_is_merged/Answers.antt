use Rattle.mc_merge.proofs.Wholes.{woven_is_merged}
use Rattle.mc_merge.proofs.laws.woven_is_merged.Goals as goal

pub returns : goal.returns
returns c = woven_is_merged
