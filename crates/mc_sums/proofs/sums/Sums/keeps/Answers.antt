use Rattle.std.proofs.Common.{◌<◌, ◌^◌, ℕ, List, sum, subst}
use Rattle.mc_sums.specs.Sums.{levels_of}
use Rattle.mc_sums.proofs.TreeSums.{sums_fit}
use Rattle.mc_sums.proofs.sums.Sums.keeps.Goals as goal

pub returns-clause-fits : goal.returns-clause-fits
returns-clause-fits c = subst (λ (counts : List ℕ). sum counts < 2 ^ 63) c.self.view_is (sums_fit (levels_of c.self.inside.levels.items) c.self.invariant)
