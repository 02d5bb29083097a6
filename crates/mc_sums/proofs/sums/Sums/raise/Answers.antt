use Rattle.std.proofs.Common.{◌≡◌, ◌<◌, ◌^◌, ◌∙◌, ap, ℕ, List, Vec, length, sum, subst, sym, arith}
use Rattle.std.proofs.Math.ListN.{get_or}
use Rattle.std.specs.declared.alloc.Global.{Global}
use Rattle.mc_sums.specs.Sums.{AreSmallSums, counts_of, level_after, levels_of}
use Rattle.mc_sums.specs.declared.limit.TheConstants.{COUNT_LIMIT}
use Rattle.mc_sums.proofs.TreePuts.{changed_small, written_back}
use Rattle.mc_sums.proofs.TreeSums.{sums_fit}
use Rattle.mc_sums.proofs.sums.Sums.raise.Goals as goal

pub change-requires-clause-fits : goal.change-requires-clause-fits
change-requires-clause-fits c =
    let low : sum (counts_of c.deref_mut.result.now) < 2 ^ 63
    = subst (λ (levels : List (Vec ℕ Global)). sum (counts_of levels) < 2 ^ 63) (sym c.deref_mut.ensures.value) (sums_fit (levels_of c.self.inside.levels.items) c.self.invariant) in
    omega arith

pub invariant_of-self : goal.invariant_of-self
invariant_of-self c =
    let old : List (Vec ℕ Global) = c.self.inside.levels.items in
    let new : List (Vec ℕ Global) = c.change.new.levels in
    let counts : List ℕ = counts_of old in
    let value = c.deref_mut.ensures.value in
    let long : length new ≡ length old = c.change.auto.levels ∙ ap length value in
    let ok = c.self.inside.levels.ok.0 in
    let inside : c.args.place < length counts = subst (λ (l : List ℕ). c.args.place < length l) (sym c.self.view_is) c.requires.inside in
    let room : get_or counts c.args.place 0 < COUNT_LIMIT = subst (λ (l : List ℕ). get_or l c.args.place 0 < COUNT_LIMIT) (sym c.self.view_is) c.requires.room in
    subst (λ (levels : List (Vec ℕ Global)). AreSmallSums (levels_of levels)) (sym (written_back new old c.self.inside.levels.len (long ∙ sym ok) (sym ok)))
    (changed_small (levels_of old) (levels_of new) c.args.place 0 1 c.self.invariant inside (omega arith) c.change.ensures.sums
    (subst (λ (levels : List (Vec ℕ Global)). counts_of new ≡ level_after (counts_of levels) c.args.place 0 1) value c.change.ensures.counts))
