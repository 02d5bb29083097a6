use Rattle.mc_team.proofs.TakenLanes.{IsTaking}
use Rattle.mc_worker.specs.Boxes.{items_of}
use Rattle.mc_team.proofs.making.take_lanes.Given as goal

abbrev pub invariant-loop-lane : goal.invariant-loop-lane
invariant-loop-lane l = IsTaking l.numbers l.lane-index (items_of l.fn.lanes.items) (items_of l.lanes.items) (items_of l.taken.items)
