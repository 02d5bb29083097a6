use Rattle.std.proofs.Common.{length}
use Rattle.mc_merge.proofs.merged.clear.Given as goal

abbrev pub decreases-loop-made : goal.decreases-loop-made
decreases-loop-made l = length l.made.items
