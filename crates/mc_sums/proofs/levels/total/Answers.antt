use Rattle.std.proofs.Common.{◌-◌, ◌∙◌, ap, sym, ℕ}
use Rattle.std.proofs.Math.ListN.{get_or}
use Rattle.std.proofs.lemmas.List.{length-map}
use Rattle.mc_sums.specs.Sums.{level_at, levels_of}
use Rattle.mc_sums.proofs.TreeSums.{top_is}
use Rattle.mc_sums.proofs.levels.total.Goals as goal

pub returns : goal.returns
returns c =
    c.number.ensures
    ∙ (ap (λ (n : ℕ). get_or (level_at (levels_of c.args.levels.now) (n - 1)) 0 0) (sym (length-map c.args.levels.now (λ level. level.items))) ∙ top_is (levels_of c.args.levels.now) c.requires)
