use Rattle.std.proofs.Common.{arith}
use Rattle.mc_ladder_svg.proofs.PicturesDrawn.{begins, line_more}
use Rattle.mc_ladder_svg.proofs.drawing.put_lines.Goals as goal

pub loop-line-init : goal.loop-line-init
loop-line-init c =
    begins c.args.columns.now c.args.names.now c.args.blocks.now c.args.choice.now c.args.closings.now c.args.world.now c.args.journal.now c.args.out.now.items c.in_ok-whys.whys c.new-count.result
    c.in_ok-whys.ensures.tells c.in_ok-whys.ensures.slots c.new-count.ensures

pub loop-line-preserved : goal.loop-line-preserved
loop-line-preserved c =
    line_more c.args.columns.now c.args.names.now c.args.blocks.now c.args.choice.now c.args.closings.now c.args.world.now c.args.journal.now c.args.out.now.items c.loop-line.world c.put_chosen.new.world
    c.loop-line.whys c.put_chosen.new.whys c.loop-line.count c.after-count.result c.loop-line.y c.in_ok-y.y c.loop-line.line-index _ c.loop-line.out.items c.put_chosen.new.out.items
    (omega (arith, c.loop-line-test.true)) c.in_ok-y.ensures.rows c.in_ok-y.ensures.made c.in_ok-y.ensures.notes c.in_ok-y.ensures.next c.in_ok-y.ensures.few c.after-count.ensures c.loop-line.invariant
