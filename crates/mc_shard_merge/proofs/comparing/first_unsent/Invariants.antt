use Rattle.std.proofs.Common.{take}
use Rattle.mc_shard.specs.Journals.{AreAllAmong, sent_at, taken_at}
use Rattle.mc_shard_merge.proofs.comparing.first_unsent.Given as goal

-- what was taken so far was sent
abbrev pub invariant-loop-index : goal.invariant-loop-index
invariant-loop-index l = AreAllAmong (taken_at l.into (take l.index l.taker)) (sent_at l.out l.sender)
