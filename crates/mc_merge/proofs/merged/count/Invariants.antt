use Rattle.std.proofs.Common.{◌≡◌, take}
use Rattle.mc_merge.specs.Weaving.{entry_count, logs_of}
use Rattle.mc_merge.proofs.merged.count.Given as goal

abbrev pub invariant-loop-log : goal.invariant-loop-log
invariant-loop-log l = l.all ≡ entry_count (take l.log-index (logs_of l.logs))
