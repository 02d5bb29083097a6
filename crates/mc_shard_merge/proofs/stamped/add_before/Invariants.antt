use Rattle.std.proofs.Common.{◌≡◌, ◌++◌, drop}
use Rattle.mc_shard_merge.specs.Stamped.{before_stamp, from_stamp}
use Rattle.mc_shard_merge.proofs.stamped.add_before.Given as goal

-- what is added and what is to be added is all; and what comes after is the same from here
abbrev pub invariant-loop-next : goal.invariant-loop-next
invariant-loop-next l = record {
  added : l.turns.items ++ before_stamp l.stamp (drop l.next l.others) ≡ l.initial.turns.items ++ before_stamp l.stamp (drop l.start l.others);
  rest : from_stamp l.stamp (drop l.next l.others) ≡ from_stamp l.stamp (drop l.start l.others);
}
