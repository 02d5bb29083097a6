use Rattle.std.proofs.Common.{arith}
use Rattle.mc_ladder_svg.proofs.PathsDrawn.{all_paths, path_more}
use Rattle.mc_ladder_svg.proofs.settle.put_paths.Goals as goal

pub loop-before-preserved : goal.loop-before-preserved
loop-before-preserved c =
    path_more c.args.columns.now c.args.names.now c.args.world.now c.args.whys.now c.args.views.now c.loop-before.before c.index-views-before.result c.loop-before.out.items c.put_path.new.out.items _
    c.loop-before-test.true c.index-views-before.is c.in_ok-put_path.ensures c.loop-before.invariant

pub returns : goal.returns
returns c =
    all_paths c.args.columns.now c.args.names.now c.args.world.now c.args.whys.now c.args.views.now c.loop-before.before c.loop-before.out.items _ (omega (arith, c.loop-before-test.false)) c.loop-before.invariant
