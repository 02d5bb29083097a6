use Rattle.std.proofs.Common.{◌<◌, ℕ}
use Rattle.mc_shard_merge.specs.Compared.{journal_at, journals_of}
use Rattle.mc_shard_merge.specs.Turns.{EachNamed, names_at, names_of}
use Rattle.mc_shard_merge.proofs.naming.first_unnamed.Given as goal

-- the boxes of the shards so far have numbers
abbrev pub invariant-loop-shard : goal.invariant-loop-shard
invariant-loop-shard l = (shard : ℕ) → shard < l.shard → EachNamed (names_at (names_of l.names) shard) (journal_at (journals_of l.journals) shard)
