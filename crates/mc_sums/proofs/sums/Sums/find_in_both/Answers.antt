use Rattle.std.proofs.Common.{◌<◌, ◌^◌, ℕ, List, Vec, sum, subst, sym, arith}
use Rattle.std.specs.declared.alloc.Global.{Global}
use Rattle.mc_sums.specs.Sums.{counts_of, levels_of}
use Rattle.mc_sums.proofs.TreeSums.{sums_fit}
use Rattle.mc_sums.proofs.sums.Sums.find_in_both.Goals as goal

pub find_in_both-requires-clause-fits : goal.find_in_both-requires-clause-fits
find_in_both-requires-clause-fits c =
    let one : sum (counts_of c.deref.result.now) < 2 ^ 63
    = subst (λ (levels : List (Vec ℕ Global)). sum (counts_of levels) < 2 ^ 63) (sym c.deref.ensures.value) (sums_fit (levels_of c.self.inside.levels.items) c.self.invariant) in
    let two : sum (counts_of c.deref-2.result.now) < 2 ^ 63
    = subst (λ (levels : List (Vec ℕ Global)). sum (counts_of levels) < 2 ^ 63) (sym c.deref-2.ensures.value) (sums_fit (levels_of c.other.inside.levels.items) c.other.invariant) in
    omega arith
