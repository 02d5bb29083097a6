use Rattle.std.proofs.Common.{◌≡◌, set, take}
use Rattle.mc_divided.proofs.filling.fill_lane.Given as goal

-- the first signals are on the lane
abbrev pub invariant-loop-place : goal.invariant-loop-place
invariant-loop-place l = l.engine ≡ record l.fn.engine { lanes = set l.fn.engine.lanes l.lane (take l.place l.signals.items) }
