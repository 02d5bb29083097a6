use Rattle.std.proofs.Common.{drop}
use Rattle.mc_shard.specs.Journals.{IsAmong, sent_at}
use Rattle.mc_shard_merge.proofs.comparing.find_at_or_after.Given as goal

-- what is among all from the start on is among those that are left
abbrev pub invariant-loop-index : goal.invariant-loop-index
invariant-loop-index l = IsAmong (sent_at l.wanted.end (drop l.start l.journal)) l.wanted.item → IsAmong (sent_at l.wanted.end (drop l.index l.journal)) l.wanted.item
