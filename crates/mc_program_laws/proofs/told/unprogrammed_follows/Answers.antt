use Rattle.mc_program_laws.proofs.Untold.{unprogrammed_follows}
use Rattle.mc_program_laws.proofs.told.unprogrammed_follows.Goals as goal

pub returns : goal.returns
returns c = unprogrammed_follows
