use Rattle.std.proofs.Common.{◌≡◌, ◌<◌, ◌-◌, ◌^◌, List, ℕ, length, subst, sym, arith}
use Rattle.std.proofs.lemmas.List.{length-map}
use Rattle.mc_sums.specs.Sums.{levels_of}
use Rattle.mc_sums.proofs.TwoTrees.{IsAtBoth, as_long, both_fit, both_go_down, both_have, both_start, both_sums, other_inside}
use Rattle.mc_sums.proofs.finding.find_in_both.Goals as goal

pub down-init : goal.down-init
down-init c =
    let levels : List (List ℕ) = levels_of c.args.levels.now in
    let others : List (List ℕ) = levels_of c.args.others.now in
    subst (λ (n : ℕ). IsAtBoth levels others c.args.k (n - 1) 0 c.args.k) (length-map c.args.levels.now (λ level. level.items)) (both_start levels others c.args.k c.requires.pair c.requires.inside)

pub find_in_both_at-next-requires-clause-other_depth : goal.find_in_both_at-next-requires-clause-other_depth
find_in_both_at-next-requires-clause-other_depth c =
    let levels : List (List ℕ) = levels_of c.args.levels.now in
    let others : List (List ℕ) = levels_of c.args.others.now in
    let low : c.down.depth < length others = other_inside levels others c.down.depth c.requires.pair c.down.invariant.inside in
    let long : length others ≡ length c.args.others.now = length-map c.args.others.now (λ level. level.items) in
    omega arith

pub find_in_both_at-next-requires-clause-long : goal.find_in_both_at-next-requires-clause-long
find_in_both_at-next-requires-clause-long c =
    let inside = c.down.invariant.inside in
    as_long (levels_of c.args.levels.now) (levels_of c.args.others.now) (c.down.depth - 1) c.requires.pair.sums c.requires.pair.other_sums c.requires.pair.long (omega arith)

pub find_in_both_at-next-requires-clause-fits : goal.find_in_both_at-next-requires-clause-fits
find_in_both_at-next-requires-clause-fits c =
    let levels : List (List ℕ) = levels_of c.args.levels.now in
    let others : List (List ℕ) = levels_of c.args.others.now in
    let inside = c.down.invariant.inside in
    subst (λ (n : ℕ). n < 2 ^ 64) (sym (both_sums levels others (c.down.depth - 1) c.requires.pair (omega arith))) c.requires.fits

pub find_in_both_at-next-requires-clause-inside : goal.find_in_both_at-next-requires-clause-inside
find_in_both_at-next-requires-clause-inside c =
    let levels : List (List ℕ) = levels_of c.args.levels.now in
    let others : List (List ℕ) = levels_of c.args.others.now in
    both_have levels others c.args.k c.down.depth c.down.place c.down.rest c.requires.pair c.down-test.true c.down.invariant

pub down-preserved : goal.down-preserved
down-preserved c =
    let levels : List (List ℕ) = levels_of c.args.levels.now in
    let others : List (List ℕ) = levels_of c.args.others.now in
    both_go_down levels others c.args.k c.down.depth c.down.place c.down.rest c.find_in_both_at-next.result.0 c.find_in_both_at-next.result.1
    c.requires.pair c.down-test.true c.down.invariant c.find_in_both_at-next.ensures

pub overflow_mul-place : goal.overflow_mul-place
overflow_mul-place c =
    let levels : List (List ℕ) = levels_of c.args.levels.now in
    let others : List (List ℕ) = levels_of c.args.others.now in
    let low : c.down.place < 2 ^ 32 = both_fit levels others c.args.k c.down.depth c.down.place c.down.rest c.requires.pair c.down.invariant in
    omega arith
