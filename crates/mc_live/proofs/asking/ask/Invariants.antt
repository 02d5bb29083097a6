use Rattle.std.proofs.Common.{◌≡◌}
use Rattle.mc_desk.specs.Desks.{IsOperatorOf, IsSameOperator, accepted_of}
use Rattle.mc_live.proofs.asking.ask.Given as goal

abbrev pub invariant-loop : goal.invariant-loop
invariant-loop g l = record {
  of : IsOperatorOf l.desk l.who;
  same : IsSameOperator l.initial.who l.who;
  kept : accepted_of l.who ≡ accepted_of l.initial.who;
}
