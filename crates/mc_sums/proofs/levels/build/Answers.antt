use Rattle.std.proofs.Common.{◌≡◌, ◌<◌, ◌^◌, ◌++◌, ◌∙◌, ap, sym, subst, ℕ, List, [], ◌∷◌, length, sum, Vec, arith}
use Rattle.std.proofs.lemmas.List.{map_push}
use Rattle.std.specs.declared.alloc.Global.{Global}
use Rattle.mc_sums.specs.Sums.{AreGroupSums, AreSmallSums, levels_of}
use Rattle.mc_sums.proofs.TreeBuilds.{build_ends, build_pushed, built_fits, grouped_less}
use Rattle.mc_sums.proofs.levels.build.Goals as goal

-- the levels with one more
pushed_is : (levels more : List (Vec ℕ Global)) (level : Vec ℕ Global) → more ≡ levels ++ level ∷ [] → levels_of more ≡ levels_of levels ++ level.items ∷ []
pushed_is levels more level pushed = ap (λ (all : List (Vec ℕ Global)). levels_of all) pushed ∙ map_push (λ level. level.items) levels level

pub group_sums-requires : goal.group_sums-requires
group_sums-requires c =
    subst (λ (level : List ℕ). sum level < 2 ^ 63) (sym c.deref.ensures.value)
    (built_fits c.args.counts.items (levels_of c.up.levels.items ++ c.up.level.items ∷ []) c.up.level.items c.requires.few c.requires.small c.up.invariant)

pub returns-clause-sums : goal.returns-clause-sums
returns-clause-sums c =
    subst (λ (levels : List (List ℕ)). AreSmallSums levels) (sym (pushed_is c.up.levels.items c.push-2.new.self.items c.up.level c.in_ok-push-2.ensures.items))
    (build_ends c.args.counts.items (levels_of c.up.levels.items ++ c.up.level.items ∷ []) c.up.level.items
    (let test = c.up-test.false in let len = c.len.ensures in let ok = c.up.level.ok.0 in omega arith) c.requires.small c.up.invariant)

pub up-smaller : goal.up-smaller
up-smaller c =
    let some : 1 < length c.up.level.items = let test = c.up-test.true in let len = c.len.ensures in let ok = c.up.level.ok.0 in omega arith in
    grouped_less c.up.level.items c.in_ok-above.above.items (subst (λ (level : List ℕ). AreGroupSums level c.in_ok-above.above.items) c.deref.ensures.value c.in_ok-above.ensures) some

pub up-preserved : goal.up-preserved
up-preserved c =
    build_pushed c.args.counts.items (levels_of c.up.levels.items) (levels_of c.push.new.self.items) c.up.level.items c.in_ok-above.above.items c.up.invariant
    (pushed_is c.up.levels.items c.push.new.self.items c.up.level c.in_ok-push.ensures.items)
    (subst (λ (level : List ℕ). AreGroupSums level c.in_ok-above.above.items) c.deref.ensures.value c.in_ok-above.ensures)
    (let test = c.up-test.true in let len = c.len.ensures in let ok = c.up.level.ok.0 in omega arith)
