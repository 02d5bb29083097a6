use Rattle.std.specs.List.{AllWithin}
use Rattle.mc_shard.specs.Cutting.{IsTakenForGood}
use Rattle.mc_shard.proofs.cutting.all_taken_for_good.Given as goal

-- the signals before were
abbrev pub invariant-loop-i : goal.invariant-loop-i
invariant-loop-i l = AllWithin (IsTakenForGood l.taken) l.sent.items 0 l.i
