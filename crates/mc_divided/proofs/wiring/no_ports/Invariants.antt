use Rattle.std.proofs.Common.{◌≡◌, [], replicate}
use Rattle.mc_part.specs.DividedParts.{inner_lists}
use Rattle.mc_divided.proofs.wiring.no_ports.Given as goal

abbrev pub invariant-loop-done : goal.invariant-loop-done
invariant-loop-done l = inner_lists l.ports.items ≡ replicate l._done []
