use Rattle.mc_livetop.proofs.Shows.{stops_show}
use Rattle.mc_livetop.proofs.laws.live_stops_show_cause.Goals as goal

pub returns : goal.returns
returns c = stops_show
