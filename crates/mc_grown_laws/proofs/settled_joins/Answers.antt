use Rattle.mc_grown_laws.proofs.Settled.{settled_joins}
use Rattle.mc_grown_laws.proofs.settled_joins.Goals as goal

pub returns : goal.returns
returns c = settled_joins
