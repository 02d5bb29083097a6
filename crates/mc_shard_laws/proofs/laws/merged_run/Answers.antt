use Rattle.mc_shard_laws.proofs.Merged.{merged_run}
use Rattle.mc_shard_laws.proofs.laws.merged_run.Goals as goal

pub returns : goal.returns
returns c = merged_run
