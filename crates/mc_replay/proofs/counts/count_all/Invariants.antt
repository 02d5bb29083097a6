use Rattle.mc_replay.proofs.CountsKept.{CountedTo}
use Rattle.mc_replay.proofs.counts.count_all.Given as goal

-- the boxes so far are counted
abbrev pub invariant-loop-who : goal.invariant-loop-who
invariant-loop-who l = CountedTo l.world l.counts l.who
