use Rattle.mc_shard_c.proofs.Owners.{owners_fit}
use Rattle.mc_shard_c.proofs.laws.owners_fit.Goals as goal

pub returns : goal.returns
returns c = owners_fit
