use Rattle.std.proofs.Common.{length}
use Rattle.mc_live.proofs.all_boxes.+fn-run_boxes-join_mut+arg2+fn-run_boxes-join_mut+arg3+run_boxes.Given as goal

abbrev pub decreases-join_mut+arg2 : goal.decreases-join_mut+arg2
decreases-join_mut+arg2 g l = length l.front.now

abbrev pub decreases-join_mut+arg3 : goal.decreases-join_mut+arg3
decreases-join_mut+arg3 g l = length l.back.now

abbrev pub decreases-run_boxes : goal.decreases-run_boxes
decreases-run_boxes g l = length l.runs.now
