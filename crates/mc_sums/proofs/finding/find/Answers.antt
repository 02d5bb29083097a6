use Rattle.std.proofs.Common.{◌<◌, ◌-◌, ◌^◌, List, ℕ, subst, arith}
use Rattle.std.proofs.lemmas.List.{length-map}
use Rattle.mc_sums.specs.Sums.{levels_of}
use Rattle.mc_sums.proofs.TreeSums.{IsAt, goes_down, group_has, place_fits, starts}
use Rattle.mc_sums.proofs.finding.find.Goals as goal

pub down-init : goal.down-init
down-init c =
    let levels : List (List ℕ) = levels_of c.args.levels.now in
    subst (λ (n : ℕ). IsAt levels c.args.k (n - 1) 0 c.args.k) (length-map c.args.levels.now (λ level. level.items)) (starts levels c.args.k c.requires.sums c.requires.inside)

pub find_at-next-requires-clause-inside : goal.find_at-next-requires-clause-inside
find_at-next-requires-clause-inside c = group_has (levels_of c.args.levels.now) c.args.k c.down.depth c.down.place c.down.rest c.requires.sums c.down-test.true c.down.invariant

pub down-preserved : goal.down-preserved
down-preserved c =
    goes_down (levels_of c.args.levels.now) c.args.k c.down.depth c.down.place c.down.rest c.find_at-next.result.0 c.find_at-next.result.1
    c.requires.sums c.down-test.true c.down.invariant c.find_at-next.ensures

pub overflow_mul-place : goal.overflow_mul-place
overflow_mul-place c = let low : c.down.place < 2 ^ 32 = place_fits (levels_of c.args.levels.now) c.args.k c.down.depth c.down.place c.down.rest c.requires.sums c.down.invariant in omega arith
