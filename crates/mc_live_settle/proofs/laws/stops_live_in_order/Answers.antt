use Rattle.mc_live_settle.proofs.BehindLeft.{stops_live_in_order}
use Rattle.mc_live_settle.proofs.laws.stops_live_in_order.Goals as goal

pub returns : goal.returns
returns c = stops_live_in_order
