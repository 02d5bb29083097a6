use Rattle.std.proofs.Common.{◌≡◌, length, vec_capacity, vec_len}
use Rattle.mc_merge.proofs.Taking.{HasTaken}
use Rattle.mc_merge.proofs.merged.take_until.Given as goal

abbrev pub invariant-loop-first : goal.invariant-loop-first
invariant-loop-first l =
    HasTaken l.until l.initial.log l.log l.initial.turns.items l.turns.items (vec_len l.turns) (vec_capacity l.turns)
    × (vec_capacity l.turns ≡ vec_capacity l.initial.turns)

abbrev pub decreases-loop-first : goal.decreases-loop-first
decreases-loop-first l = length l.log.made.items
