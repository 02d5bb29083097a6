use Rattle.std.specs.List.{All}
use Rattle.std.proofs.Common.{take}
use Rattle.mc_shard.specs.Cutting.{MayBeCut}
use Rattle.mc_shard.proofs.cutting.cuttable.Given as goal

-- the entries before may be cut
abbrev pub invariant-loop-index : goal.invariant-loop-index
invariant-loop-index l = All (MayBeCut l.taken) (take l.index l.journal)
