use Rattle.std.proofs.Common.{◌∙◌}
use Rattle.std.proofs.lemmas.Result.{IfOk-weaker}
use Rattle.mc_ladder_svg.proofs.PicturesDrawn.{by_survey}
use Rattle.mc_ladder_svg.proofs.drawing.draw_svg.Goals as goal

pub returns : goal.returns
returns c =
    IfOk-weaker c.draw_by.result _ _
    (λ text is. by_survey c.deref.result.now c.args.names.now c.args.blocks.now c.args.world.now c.args.choice.now c.args.found.now c.args.journal.now text.items
    (c.deref.ensures.value ∙ c.in_ok-columns.ensures) c.requires.found is)
    c.draw_by.ensures
