use Rattle.mc_shard_laws.proofs.Growth.{quiet_stays}
use Rattle.mc_shard_laws.proofs.laws.quiet_stays.Goals as goal

pub returns : goal.returns
returns c = quiet_stays
