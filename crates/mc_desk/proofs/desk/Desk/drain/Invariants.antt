use Rattle.std.proofs.Common.{◌≡◌, ◌+◌, length}
use Rattle.crossbeam_queue.specs.Passes.{view, IsPassOf}
use Rattle.mc_desk.proofs.Draining.{with_more_taken}
use Rattle.mc_desk.proofs.desk.Desk.drain.Given as goal

-- so many requests were taken and stand in the lane
abbrev pub invariant-loop : goal.invariant-loop
invariant-loop g l = record {
  queue : IsPassOf l.self.queue l.taker;
  view_is : view l.taker ≡ with_more_taken (view l.fn.taker) l.rest.items;
  count : length l.rest.items ≡ l.counter;
  room : l.rest.spare + l.counter ≡ l.fn.rest.spare;
}
