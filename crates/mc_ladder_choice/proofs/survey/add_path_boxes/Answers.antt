use Rattle.std.proofs.Common.{arith, sym}
use Rattle.mc_ladder_choice.specs.Boxes.{path_boxes}
use Rattle.mc_ladder_choice.proofs.Added.{given_more}
use Rattle.mc_ladder_choice.proofs.survey.add_path_boxes.Goals as goal

pub loop-view-preserved : goal.loop-view-preserved
loop-view-preserved c =
    given_more (λ view. path_boxes c.args.world.now view.low.slot) c.loop-view.boxes.items c.add_boxes_of.new.boxes.items c.args.views.now c.loop-view.view-index c.view-item.result _
    (omega (arith, c.loop-view-test.true)) (sym c.view-item.is) c.in_ok-add_boxes_of.ensures c.loop-view.invariant
