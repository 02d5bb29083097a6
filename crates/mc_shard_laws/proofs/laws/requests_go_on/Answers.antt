use Rattle.mc_shard_laws.proofs.Askers.{requests_go_on}
use Rattle.mc_shard_laws.proofs.laws.requests_go_on.Goals as goal

pub returns : goal.returns
returns c = requests_go_on
