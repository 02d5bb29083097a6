use Rattle.mc_shard_laws.proofs.Cuts.{cuts_keep_the_rest}
use Rattle.mc_shard_laws.proofs.laws.cuts_keep_the_rest.Goals as goal

pub returns : goal.returns
returns c = cuts_keep_the_rest
