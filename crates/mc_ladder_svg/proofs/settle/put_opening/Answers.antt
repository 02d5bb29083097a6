use Rattle.std.proofs.Common.{◌-◌, ◌++◌, ◌∙◌, ℕ, ap₂, length}
use Rattle.std.proofs.lemmas.Result.{on_ok_weaker}
use Rattle.mc_ladder_svg.specs.Settles.{opening_by}
use Rattle.mc_ladder_svg.proofs.settle.put_opening.Goals as goal

pub returns : goal.returns
returns c =
    on_ok_weaker c.put_opening_by.result
    (λ last. last ∙ ap₂ (λ (bottom width : ℕ). c.args.out.now.items ++ opening_by (length c.args.columns.now) width (bottom - 8) c.args.row) c.settle_height-bottom.ensures.height c.width_of.ensures)
    c.put_opening_by.ensures
