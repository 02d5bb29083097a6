use Rattle.std.proofs.Common.{◌≡◌, ◌≤◌, ◌++◌, length, map}
use Rattle.mc_port.specs.Ends.{without_stamp}
use Rattle.mc_worker.proofs.outboxes.move_lane.Given as goal

abbrev pub invariant-loop-item : goal.invariant-loop-item
invariant-loop-item l = record {
  moved : l.into.items ++ map without_stamp l.from.items ≡ l.initial.into.items ++ map without_stamp l.initial.from.items;
  room : length l.from.items ≤ l.into.spare;
  kept : l.initial.from.spare ≤ l.from.spare;
}

abbrev pub decreases-loop-item : goal.decreases-loop-item
decreases-loop-item l = length l.from.items
