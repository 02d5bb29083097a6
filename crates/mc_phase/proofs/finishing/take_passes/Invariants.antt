use Rattle.std.proofs.Common.{◌≡◌, ◌++◌}
use Rattle.mc_desks.specs.Passes.{lists_of}
use Rattle.mc_phase.specs.Prepared.{passes_of}
use Rattle.mc_phase.proofs.finishing.take_passes.Given as goal

abbrev pub invariant-loop-asker : goal.invariant-loop-asker
invariant-loop-asker l = lists_of l.passes.items ++ passes_of l.asker-iterator.rest.items ≡ passes_of l.fn.askers.items
