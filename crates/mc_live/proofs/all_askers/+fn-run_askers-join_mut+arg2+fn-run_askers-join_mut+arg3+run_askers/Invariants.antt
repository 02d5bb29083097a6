use Rattle.std.proofs.Common.{length}
use Rattle.mc_live.proofs.all_askers.+fn-run_askers-join_mut+arg2+fn-run_askers-join_mut+arg3+run_askers.Given as goal

abbrev pub decreases-join_mut+arg2 : goal.decreases-join_mut+arg2
decreases-join_mut+arg2 g l = length l.front.now

abbrev pub decreases-join_mut+arg3 : goal.decreases-join_mut+arg3
decreases-join_mut+arg3 g l = length l.back.now

abbrev pub decreases-run_askers : goal.decreases-run_askers
decreases-run_askers g l = length l.askers.now
