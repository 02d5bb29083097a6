use Rattle.std.proofs.Common.{◌≡◌, ◌≤◌, ◌++◌, drop, length, slice_index_or}
use Rattle.mc_shard_merge.specs.Stamped.{stamped_turns, merged_with}
use Rattle.mc_shard_merge.proofs.stamped.merged_with.Given as goal

-- the turns so far, and those that are left of both, make the whole
abbrev pub invariant-loop-entry : goal.invariant-loop-entry
invariant-loop-entry l = record {
  inside : l.next ≤ length l.others;
  whole : l.turns.items ++ merged_with (stamped_turns (λ at. slice_index_or l.names at 0) (drop l.entry-index l.journal)) (drop l.next l.others)
      ≡ merged_with (stamped_turns (λ at. slice_index_or l.names at 0) l.journal) l.others;
}
