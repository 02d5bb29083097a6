use Rattle.mc_laws.proofs.Chains.{run_keeps_named}
use Rattle.mc_laws.proofs.laws.run_keeps_named.Goals as goal

pub returns : goal.returns
returns c = run_keeps_named
