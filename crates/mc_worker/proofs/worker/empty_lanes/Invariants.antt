use Rattle.std.proofs.Common.{◌≡◌, length}
use Rattle.mc_worker.specs.Boxes.{AreEmpty, items_of}
use Rattle.mc_worker.proofs.worker.empty_lanes.Given as goal

abbrev pub invariant-loop : goal.invariant-loop
invariant-loop g l = record {
  count : length l.lanes.items ≡ l.counter;
  empty : AreEmpty (items_of l.lanes.items);
}
