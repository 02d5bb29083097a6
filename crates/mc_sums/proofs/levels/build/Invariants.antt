use Rattle.std.proofs.Common.{◌++◌, ◌∷◌, [], length}
use Rattle.mc_sums.specs.Sums.{levels_of}
use Rattle.mc_sums.proofs.TreeBuilds.{IsBuilt}
use Rattle.mc_sums.proofs.levels.build.Given as goal

-- the levels so far
abbrev pub invariant-up : goal.invariant-up
invariant-up l = IsBuilt l.fn.counts.items (levels_of l.levels.items ++ l.level.items ∷ []) l.level.items

abbrev pub decreases-up : goal.decreases-up
decreases-up l = length l.level.items
