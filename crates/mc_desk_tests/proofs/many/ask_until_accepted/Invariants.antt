use Rattle.std.proofs.Common.{◌≡◌}
use Rattle.mc_desk.specs.Desks.{IsSameOperator, accepted_of}
use Rattle.mc_desk_tests.proofs.many.ask_until_accepted.Given as goal

abbrev pub invariant-loop : goal.invariant-loop
invariant-loop g l = record {
  same : IsSameOperator l.fn.who l.who;
  kept : accepted_of l.who ≡ accepted_of l.fn.who;
}
