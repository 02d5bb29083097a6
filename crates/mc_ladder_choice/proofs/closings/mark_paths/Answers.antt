use Rattle.std.proofs.Common.{sym, arith}
use Rattle.mc_ladder_choice.specs.Closings.{view_closings}
use Rattle.mc_ladder_choice.proofs.Marked.{all_given, given_more, no_more}
use Rattle.mc_ladder_choice.proofs.closings.mark_paths.Goals as goal

pub loop-view-init : goal.loop-view-init
loop-view-init c = no_more c.args.marks.now.items

pub loop-view-preserved : goal.loop-view-preserved
loop-view-preserved c =
    given_more (view_closings c.args.whys.now) c.args.views.now c.loop-view.view-index c.view-item.result c.args.marks.now.items c.loop-view.marks.items c.mark_path.new.marks.items
    (omega (arith, c.loop-view-test.true)) (sym c.view-item.is) c.loop-view.invariant c.mark_path.ensures

pub returns : goal.returns
returns c =
    all_given (view_closings c.args.whys.now) c.args.views.now c.loop-view.view-index c.args.marks.now.items c.loop-view.marks.items (omega (arith, c.loop-view-test.false)) c.loop-view.invariant
