use Rattle.std.proofs.Common.{arith, sym}
use Rattle.mc_ladder.specs.Settling.{path_rows}
use Rattle.mc_ladder.proofs.Taken.{each_taken}
use Rattle.mc_ladder.proofs.settle.put_all_rows.Goals as goal

pub loop-view-preserved : goal.loop-view-preserved
loop-view-preserved c =
    each_taken (path_rows c.args.frame.now c.args.names.now c.args.world.now c.args.whys.now) c.args.views.now c.loop-view.view-index c.view-item.result c.args.out.now.items c.loop-view.out.items c.put_path_rows.new.out.items
    (omega (arith, c.loop-view-test.true)) (sym c.view-item.is) c.loop-view.invariant c.in_ok-put_path_rows.ensures
