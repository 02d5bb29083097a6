use Rattle.std.proofs.Common.{length}
use Rattle.mc_journal.proofs.Places.{HasCounted}
use Rattle.mc_journal.proofs.place.line_count.Given as goal

-- the lines so far are counted
abbrev pub invariant-loop-rest : goal.invariant-loop-rest
invariant-loop-rest l = HasCounted l.text l.rest l.count

abbrev pub decreases-loop-rest : goal.decreases-loop-rest
decreases-loop-rest l = length l.rest
