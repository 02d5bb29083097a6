use Rattle.std.proofs.Common.{◌≡◌, ◌==◌}
use Rattle.crossbeam_queue.specs.Passes.{view, IsPassOf}
use Rattle.mc_desk.specs.Histories.{taker_with}
use Rattle.mc_desk.proofs.Dealing.{Dealt}
use Rattle.mc_desk.proofs.desk.Desk.deal.Given as goal

abbrev pub invariant-loop-number : goal.invariant-loop-number
invariant-loop-number l = record {
  queue : IsPassOf l.self.queue l.taker;
  taker : view l.taker ≡ taker_with l.number (l.number == l.self.operators);
  dealt : Dealt l.self l.number l.list.items;
}
