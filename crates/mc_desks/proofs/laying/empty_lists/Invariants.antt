use Rattle.std.proofs.Common.{◌≡◌, replicate, []}
use Rattle.mc_desks.specs.Passes.{lists_of}
use Rattle.mc_desks.proofs.laying.empty_lists.Given as goal

abbrev pub invariant-loop-done : goal.invariant-loop-done
invariant-loop-done l = lists_of l.lists.items ≡ replicate l._done []
