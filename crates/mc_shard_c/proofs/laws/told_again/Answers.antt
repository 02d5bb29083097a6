use Rattle.mc_shard_c.proofs.Told.{told_again}
use Rattle.mc_shard_c.proofs.laws.told_again.Goals as goal

pub returns : goal.returns
returns c = told_again
