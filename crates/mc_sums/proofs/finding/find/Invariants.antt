use Rattle.mc_sums.specs.Sums.{levels_of}
use Rattle.mc_sums.proofs.TreeSums.{IsAt}
use Rattle.mc_sums.proofs.finding.find.Given as goal

abbrev pub invariant-down : goal.invariant-down
invariant-down l = IsAt (levels_of l.levels) l.k l.depth l.place l.rest

abbrev pub decreases-down : goal.decreases-down
decreases-down l = l.depth
