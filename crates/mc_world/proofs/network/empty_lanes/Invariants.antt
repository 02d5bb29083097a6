use Rattle.std.proofs.Common.{◌≡◌, ◌*◌, [], map, replicate}
use Rattle.mc_world.proofs.network.empty_lanes.Given as goal

-- two empty lanes for each channel so far
abbrev pub invariant-loop-done : goal.invariant-loop-done
invariant-loop-done l = map (λ lane. lane.items) l.lanes.items ≡ replicate (2 * l._done) []
