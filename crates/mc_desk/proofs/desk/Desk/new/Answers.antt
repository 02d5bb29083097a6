use Rattle.mc_desk.proofs.Moves.{begins}
use Rattle.mc_desk.proofs.desk.Desk.new.Goals as goal

pub ruled-requires-clause-rule : goal.ruled-requires-clause-rule
ruled-requires-clause-rule c = begins
