use Rattle.mc_sums.specs.Sums.{levels_of}
use Rattle.mc_sums.proofs.TwoTrees.{IsAtBoth}
use Rattle.mc_sums.proofs.finding.find_in_both.Given as goal

abbrev pub invariant-down : goal.invariant-down
invariant-down l = IsAtBoth (levels_of l.levels) (levels_of l.others) l.k l.depth l.place l.rest

abbrev pub decreases-down : goal.decreases-down
decreases-down l = l.depth
