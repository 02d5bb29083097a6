use Rattle.many_calls.specs.Allowed.{AllowsAll}
use Rattle.many_calls.proofs.settling.settle_times.Given as goal

abbrev pub invariant-loop-time : goal.invariant-loop-time
invariant-loop-time g l = AllowsAll l.parted l.batches
