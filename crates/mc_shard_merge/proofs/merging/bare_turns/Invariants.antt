use Rattle.std.proofs.Common.{◌≡◌, map, take}
use Rattle.mc_shard_merge.specs.Stamped.{bare_turn}
use Rattle.mc_shard_merge.proofs.merging.bare_turns.Given as goal

-- the turns so far
abbrev pub invariant-loop-one : goal.invariant-loop-one
invariant-loop-one l = l.turns.items ≡ map bare_turn (take l.one-index l.stamped)
