use Rattle.mc_script_end.proofs.Causes.{never_stops}
use Rattle.mc_script_end.proofs.laws.restful_never_stop.Goals as goal

pub returns : goal.returns
returns c = never_stops
