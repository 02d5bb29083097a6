use Rattle.mc_script_end.proofs.Causes.{ran_shows}
use Rattle.mc_script_end.proofs.laws.stops_show_cause.Goals as goal

pub returns : goal.returns
returns c = ran_shows
