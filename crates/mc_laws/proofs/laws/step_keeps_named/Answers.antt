use Rattle.mc_laws.proofs.Chains.{step_keeps_named}
use Rattle.mc_laws.proofs.laws.step_keeps_named.Goals as goal

pub returns : goal.returns
returns c = step_keeps_named
