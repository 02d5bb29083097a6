use Rattle.std.proofs.Common.{◌<◌, ◌^◌, List, Vec, ℕ, sum, subst, sym}
use Rattle.std.specs.declared.alloc.Global.{Global}
use Rattle.mc_sums.specs.Sums.{counts_of, levels_of}
use Rattle.mc_sums.proofs.TreeSums.{sums_fit}
use Rattle.mc_sums.proofs.sums.Sums.find.Goals as goal

pub find_among_two-requires-clause-fits : goal.find_among_two-requires-clause-fits
find_among_two-requires-clause-fits c = subst (λ (levels : List (Vec ℕ Global)). sum (counts_of levels) < 2 ^ 63) (sym c.deref.ensures.value) (sums_fit (levels_of c.self.inside.levels.items) c.self.invariant)
