use Rattle.mc_program_laws.proofs.Untold.{untold_stays}
use Rattle.mc_program_laws.proofs.told.untold_stays.Goals as goal

pub returns : goal.returns
returns c = untold_stays
