use Rattle.mc_laws.proofs.SteppedKeeps.{stepped_stays}
use Rattle.mc_laws.proofs.laws.stepped_stays.Goals as goal

pub returns : goal.returns
returns c = stepped_stays
