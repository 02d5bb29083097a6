use Rattle.std.proofs.Common.{◌≡◌}
use Rattle.mc_shard_merge.specs.Compared.{journals_of}
use Rattle.mc_shard_merge.specs.Turns.{name_of, names_of}
use Rattle.mc_shard_merge.specs.Stamped.{merged_stamped}
use Rattle.mc_shard_merge.proofs.merging.merged_stamped.Given as goal

-- the journals so far, as one
abbrev pub invariant-loop-shard : goal.invariant-loop-shard
invariant-loop-shard l = l.turns.items ≡ merged_stamped l.shard (name_of (names_of l.names)) (journals_of l.journals)
