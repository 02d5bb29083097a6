use Rattle.mc_part.proofs.Members.{first_parts_are_divided}
use Rattle.mc_part.proofs.laws.first_parts_are_divided.Goals as goal

pub returns : goal.returns
returns c = first_parts_are_divided
