use Rattle.mc_grown_rest.proofs.ClosedCuts.{new_are_closed}
use Rattle.mc_grown_rest.proofs.new_are_closed.Goals as goal

pub returns : goal.returns
returns c = new_are_closed
