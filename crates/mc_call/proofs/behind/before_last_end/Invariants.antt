use Rattle.mc_call.proofs.BytesBehind.{HasNoEndFrom}
use Rattle.mc_call.proofs.behind.before_last_end.Given as goal

abbrev pub invariant-loop-end : goal.invariant-loop-end
invariant-loop-end l = HasNoEndFrom l.bytes l.end

abbrev pub decreases-loop-end : goal.decreases-loop-end
decreases-loop-end l = l.end
