use Rattle.mc_world.proofs.LaneChanges.{signals_stay}
use Rattle.mc_world.proofs.lanes.reserve.Goals as goal

pub returns-clause-same : goal.returns-clause-same
returns-clause-same c = signals_stay c.args.lanes.now c.args.lane c.index-lanes-lane.result c.reserve.new.self c.requires c.reserve.ensures.items
