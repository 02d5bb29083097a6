use Rattle.std.proofs.Common.{◌≡◌, ◌++◌, drop, map, take}
use Rattle.mc_shard_c.specs.Asking.{plain_at}
use Rattle.mc_shard_c.proofs.writing.give.Given as goal

abbrev pub invariant-loop-i : goal.invariant-loop-i
invariant-loop-i l = l.out ≡ map plain_at (take l.i l.sent.items) ++ drop l.i l.initial.out
