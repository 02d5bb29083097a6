use Rattle.mc_box.proofs.EventGoes.{version_end_stops}
use Rattle.mc_box.proofs.laws.version_end_stops.Goals as goal

pub returns : goal.returns
returns c = version_end_stops
