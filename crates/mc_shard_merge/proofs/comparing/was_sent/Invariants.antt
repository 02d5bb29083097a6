use Rattle.std.proofs.Common.{drop}
use Rattle.mc_shard.specs.Journals.{IsAmong, items_at}
use Rattle.mc_shard_merge.proofs.comparing.was_sent.Given as goal

-- what is among all is among those that are left
abbrev pub invariant-loop-place : goal.invariant-loop-place
invariant-loop-place l = IsAmong (items_at l.wanted.end l.sent.items) l.wanted.item → IsAmong (items_at l.wanted.end (drop l.place l.sent.items)) l.wanted.item
