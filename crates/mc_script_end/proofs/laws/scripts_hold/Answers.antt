use Rattle.mc_script_end.proofs.Running.{ran_holds}
use Rattle.mc_script_end.proofs.laws.scripts_hold.Goals as goal

pub returns : goal.returns
returns c = ran_holds
