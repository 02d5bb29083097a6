use Rattle.std.proofs.Common.{◌≡◌, ◌+◌, ◌^◌, ◌<◌, ◌≤◌, ◌++◌, ℕ, length}
use Rattle.mc_shard.specs.States.{count_at, numbered, raised_all}
use Rattle.mc_shard.proofs.numbering.number_all.Given as goal

-- what is still to be numbered makes the whole
abbrev pub invariant-loop-sending : goal.invariant-loop-sending
invariant-loop-sending l = record {
  out : l.out.items ++ numbered l.places l.stamp l.lanes.items l.sendings.items ≡ l.initial.out.items ++ numbered l.places l.stamp l.initial.lanes.items l.initial.sendings.items;
  lanes : raised_all l.lanes.items (numbered l.places l.stamp l.lanes.items l.sendings.items) ≡ raised_all l.initial.lanes.items (numbered l.places l.stamp l.initial.lanes.items l.initial.sendings.items);
  long : length l.lanes.items ≡ length l.initial.lanes.items;
  fits : (end : ℕ) → count_at l.lanes.items end + length l.sendings.items < 2 ^ 63;
  room : length l.sendings.items ≤ l.out.spare;
}

abbrev pub decreases-loop-sending : goal.decreases-loop-sending
decreases-loop-sending l = length l.sendings.items
