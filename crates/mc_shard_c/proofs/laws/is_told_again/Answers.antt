use Rattle.mc_shard_c.proofs.Told.{is_told_again}
use Rattle.mc_shard_c.proofs.laws.is_told_again.Goals as goal

pub returns : goal.returns
returns c = is_told_again
