use Rattle.mc_laws.proofs.BatchMade.{settled_makes_its_batch}
use Rattle.mc_laws.proofs.laws.settled_makes_its_batch.Goals as goal

pub returns : goal.returns
returns c = settled_makes_its_batch
