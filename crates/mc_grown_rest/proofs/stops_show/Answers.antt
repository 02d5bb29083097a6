use Rattle.mc_grown_rest.proofs.ComingToEnd.{stops_show}
use Rattle.mc_grown_rest.proofs.stops_show.Goals as goal

pub returns : goal.returns
returns c = stops_show
