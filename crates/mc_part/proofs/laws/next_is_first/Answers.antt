use Rattle.mc_part.proofs.Uses.{next_is_first}
use Rattle.mc_part.proofs.laws.next_is_first.Goals as goal

pub returns : goal.returns
returns c = next_is_first
