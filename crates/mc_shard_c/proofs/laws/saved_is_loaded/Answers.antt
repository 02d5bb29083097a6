use Rattle.mc_shard_c.proofs.Saved.{saved_is_loaded}
use Rattle.mc_shard_c.proofs.laws.saved_is_loaded.Goals as goal

pub returns : goal.returns
returns c = saved_is_loaded
