use Rattle.mc_part.proofs.Members.{divisions_are_homes}
use Rattle.mc_part.proofs.laws.divisions_are_homes.Goals as goal

pub returns : goal.returns
returns c = divisions_are_homes
