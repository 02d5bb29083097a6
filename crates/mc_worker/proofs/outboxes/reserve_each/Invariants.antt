use Rattle.std.proofs.Common.{◌≡◌, ◌≤◌, ◌<◌, ℕ, length}
use Rattle.mc_worker.specs.Boxes.{items_of, spare_at}
use Rattle.mc_worker.proofs.outboxes.reserve_each.Given as goal

abbrev pub invariant-loop-end : goal.invariant-loop-end
invariant-loop-end l = record {
  items : items_of l.lanes.items ≡ items_of l.initial.lanes.items;
  len : length l.lanes.items ≡ length l.initial.lanes.items;
  kept : (e : ℕ) → spare_at l.initial.lanes.items e ≤ spare_at l.lanes.items e;
  room : (e : ℕ) → e < l.end → l.room ≤ spare_at l.lanes.items e;
}
