use Rattle.mc_grown_rest.proofs.FirstClosed.{first_worlds_are_closed}
use Rattle.mc_grown_rest.proofs.first_worlds_are_closed.Goals as goal

pub returns : goal.returns
returns c = first_worlds_are_closed
