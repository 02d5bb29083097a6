use Rattle.std.proofs.Common.{◌≡◌}
use Rattle.crossbeam_queue.specs.Passes.{view, IsPassOf}
use Rattle.mc_desk.specs.Histories.{with_all_known}
use Rattle.mc_desk.proofs.Gathering.{Going}
use Rattle.mc_desk.proofs.desk.Desk.gather.Given as goal

-- what is known of those whose passes are back, and those whose passes aren't
abbrev pub invariant-loop-operator : goal.invariant-loop-operator
invariant-loop-operator l = record {
  queue : IsPassOf l.self.queue l.taker;
  view_is : view l.taker ≡ with_all_known (view l.fn.taker) (view l.taker).known;
  going : Going l.self l.fn.operators.items l.operator-iterator.rest.items (view l.taker).known;
}
