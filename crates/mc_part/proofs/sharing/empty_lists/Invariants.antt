use Rattle.std.proofs.Common.{◌≡◌, [], replicate}
use Rattle.mc_part.specs.DividedParts.{inner_lists}
use Rattle.mc_part.proofs.sharing.empty_lists.Given as goal

abbrev pub invariant-loop-done : goal.invariant-loop-done
invariant-loop-done g l = inner_lists l.lists.items ≡ replicate l._done []
