use Rattle.std.proofs.Common.{vec_capacity, vec_len}
use Rattle.mc_merge.specs.Weaving.{entry_count, logs_of}
use Rattle.mc_merge.proofs.Weaves.{IsUnderWay}
use Rattle.mc_merge.proofs.merged.merge_all.Given as goal

abbrev pub invariant-loop-next : goal.invariant-loop-next
invariant-loop-next l = IsUnderWay l.initial.logs l.logs l.initial.turns.items l.turns.items (vec_len l.turns) (vec_capacity l.turns)

abbrev pub decreases-loop-next : goal.decreases-loop-next
decreases-loop-next l = entry_count (logs_of l.logs)
