use Rattle.std.proofs.Common.{◌≡◌, ◌<◌, ◌≤◌, ◌+◌, ◌-◌, sym, subst, arith, ℕ, List, sum}
use Rattle.std.proofs.Math.ListN.{get_or}
use Rattle.mc_sums.specs.Sums.{IsKth, counts_of}
use Rattle.mc_sums.proofs.TreeSums.{at_first, at_second}
use Rattle.mc_sums.proofs.finding.find_among_two.Goals as goal

-- both numbers are all
are_all : (xs : List ℕ) (i j first second total : ℕ) → first ≡ get_or xs i 0 → second ≡ get_or xs j 0 → total ≡ sum xs → first + second ≡ total → get_or xs i 0 + get_or xs j 0 ≡ sum xs
are_all xs i j first second total first_is second_is total_is both = omega arith

pub returns-then-k-first-clause-found : goal.returns-then-k-first-clause-found
returns-then-k-first-clause-found c =
    at_first (counts_of c.args.levels.now) c.args.places.0 c.args.places.1 c.args.k c.if-low-high.false
    (are_all (counts_of c.args.levels.now) c.args.places.0 c.args.places.1 c.number-first.result c.number-second.result c.total.result c.number-first.ensures c.number-second.ensures c.total.ensures c.if-first-second.false)
    (subst (λ (n : ℕ). c.args.k < n) c.number-first.ensures c.if-k-first.true)

pub returns-else-k-first-clause-found : goal.returns-else-k-first-clause-found
returns-else-k-first-clause-found c =
    let counts : List ℕ = counts_of c.args.levels.now in
    subst (λ (n : ℕ). IsKth counts 0 c.args.k c.args.places.1 (c.args.k - n)) (sym c.number-first.ensures)
    (at_second counts c.args.places.0 c.args.places.1 c.args.k c.if-low-high.false
    (are_all counts c.args.places.0 c.args.places.1 c.number-first.result c.number-second.result c.total.result c.number-first.ensures c.number-second.ensures c.total.ensures c.if-first-second.false)
    (subst (λ (n : ℕ). n ≤ c.args.k) c.number-first.ensures c.if-k-first.false) c.requires.inside)
