use Rattle.std.proofs.Common.{◌≡◌, take, fold}
use Rattle.mc_shard.specs.Digests.{mixed}
use Rattle.mc_shard.proofs.digest.mixed_all.Given as goal

-- the words so far
abbrev pub invariant-loop-word : goal.invariant-loop-word
invariant-loop-word l = l.mixed ≡ fold mixed l.fn.digest (take l.word-index l.words)
