use Rattle.std.proofs.Common.{length}
use Rattle.mc_team.proofs.running.empty.Given as goal

abbrev pub decreases-loop-entry : goal.decreases-loop-entry
decreases-loop-entry l = length l.log.items
