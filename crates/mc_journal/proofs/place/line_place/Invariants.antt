use Rattle.std.proofs.Common.{length}
use Rattle.mc_journal.proofs.Places.{HasPassed}
use Rattle.mc_journal.proofs.place.line_place.Given as goal

-- the lines so far are passed
abbrev pub invariant-loop-rest : goal.invariant-loop-rest
invariant-loop-rest l = HasPassed l.names l.shape l.text l.rest l.before l.left l.place

abbrev pub decreases-loop-rest : goal.decreases-loop-rest
decreases-loop-rest l = length l.rest
