use Rattle.mc_part.proofs.phase.+fn-run_parts-join_mut+arg2+fn-run_parts-join_mut+arg3+run_parts.Given as goal

abbrev pub decreases-join_mut+arg2 : goal.decreases-join_mut+arg2
decreases-join_mut+arg2 g l = l.first

abbrev pub decreases-join_mut+arg3 : goal.decreases-join_mut+arg3
decreases-join_mut+arg3 g l = l.second

abbrev pub decreases-run_parts : goal.decreases-run_parts
decreases-run_parts g l = l.size
