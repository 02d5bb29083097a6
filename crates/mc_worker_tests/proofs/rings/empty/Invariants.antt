use Rattle.std.proofs.Common.{◌≡◌}
use Rattle.mc_port.specs.Ends.{in_ring}
use Rattle.mc_worker_tests.proofs.rings.empty.Given as goal

abbrev pub invariant-loop-stamp : goal.invariant-loop-stamp
invariant-loop-stamp g l = in_ring l.taking ≡ in_ring l.initial.taking
