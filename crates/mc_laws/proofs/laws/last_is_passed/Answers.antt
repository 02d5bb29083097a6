use Rattle.mc_laws.proofs.LastMet.{last_is_passed}
use Rattle.mc_laws.proofs.laws.last_is_passed.Goals as goal

pub returns : goal.returns
returns c = last_is_passed
