use Rattle.std.proofs.Common.{take}
use Rattle.std.specs.List.{AllByRecursion}
use Rattle.mc_shard_merge.specs.Compared.{AgreeOn, journals_of}
use Rattle.mc_shard_merge.proofs.comparing.compare.Given as goal

-- the journals agree on the lanes so far
abbrev pub invariant-loop-place : goal.invariant-loop-place
invariant-loop-place l = AllByRecursion (AgreeOn (journals_of l.journals)) (take l.place l.joined)
