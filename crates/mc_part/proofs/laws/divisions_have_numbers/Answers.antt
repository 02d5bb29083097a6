use Rattle.mc_part.proofs.PartNumbers.{divisions_have_numbers}
use Rattle.mc_part.proofs.laws.divisions_have_numbers.Goals as goal

pub returns : goal.returns
returns c = divisions_have_numbers
