use Rattle.mc_desk.specs.Desks.{IsSameTaker}
use Rattle.mc_desk_tests.proofs.many.take_all.Given as goal

abbrev pub invariant-loop : goal.invariant-loop
invariant-loop g l = IsSameTaker l.fn.taker l.taker
