use Rattle.std.proofs.Common.{◌≤◌, length}
use Rattle.mc_desk.specs.Desks.{IsSameOperator, IsSameTaker, accepted_of}
use Rattle.one_desk.proofs.ways.ask_and_take.Given as goal

-- no more was accepted than was asked
abbrev pub invariant-loop : goal.invariant-loop
invariant-loop g l = record {
  same : IsSameOperator l.fn.who l.who;
  taker : IsSameTaker l.fn.taker l.taker;
  count : length (accepted_of l.who) ≤ l.counter;
}
