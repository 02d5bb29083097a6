use Rattle.mc_merge.specs.Weaving.{IsNext, clocks_of, logs_of}
use Rattle.mc_merge.proofs.merged.next_log.Given as goal

abbrev pub invariant-loop-part : goal.invariant-loop-part
invariant-loop-part l = IsNext (clocks_of l.logs) (logs_of l.logs) l.part l.best
