use Rattle.std.proofs.Common.{◌≡◌}
use Rattle.mc_port.specs.Ends.{out_ring}
use Rattle.mc_worker_tests.proofs.rings.fill.Given as goal

abbrev pub invariant-loop-stamp : goal.invariant-loop-stamp
invariant-loop-stamp g l = out_ring l.out ≡ out_ring l.initial.out
