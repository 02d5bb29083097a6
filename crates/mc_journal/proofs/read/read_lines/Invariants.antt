use Rattle.std.proofs.Common.{length}
use Rattle.mc_journal.proofs.Going.{HasRead}
use Rattle.mc_journal.proofs.read.read_lines.Given as goal

-- what was kept so far, and what the rest says
abbrev pub invariant-loop-rest : goal.invariant-loop-rest
invariant-loop-rest l = HasRead l.names l.shape l.text l.fn.lines.items l.rest l.lines.items

abbrev pub decreases-loop-rest : goal.decreases-loop-rest
decreases-loop-rest l = length l.rest
