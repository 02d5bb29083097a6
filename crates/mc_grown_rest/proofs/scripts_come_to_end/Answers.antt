use Rattle.mc_grown_rest.proofs.ComingToEnd.{scripts_come_to_end}
use Rattle.mc_grown_rest.proofs.scripts_come_to_end.Goals as goal

pub returns : goal.returns
returns c = scripts_come_to_end
