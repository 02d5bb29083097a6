use Rattle.std.proofs.Common.{◌≡◌, length}
use Rattle.mc_desk.specs.Desks.{IsSameOperator, accepted_of}
use Rattle.mc_desk_tests.proofs.many.ask_often.Given as goal

abbrev pub invariant-loop : goal.invariant-loop
invariant-loop g l = record {
  same : IsSameOperator l.fn.who l.who;
  count : length (accepted_of l.who) ≡ l.counter;
}
