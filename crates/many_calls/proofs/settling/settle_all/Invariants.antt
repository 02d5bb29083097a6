use Rattle.many_calls.specs.Allowed.{AllowsAll}
use Rattle.many_calls.proofs.settling.settle_all.Given as goal

abbrev pub invariant-loop-index : goal.invariant-loop-index
invariant-loop-index g l = AllowsAll l.parted l.batches
