use Rattle.mc_program_laws.proofs.Untold.{begins_at_first}
use Rattle.mc_program_laws.proofs.told.begins_at_first.Goals as goal

pub returns : goal.returns
returns c = begins_at_first
