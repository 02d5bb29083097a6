use Rattle.std.proofs.Common.{◌≡◌, ◌++◌, flat_map}
use Rattle.std.specs.List.{range_with_len}
use Rattle.mc_shard.specs.Owing.{owed_if}
use Rattle.mc_shard.proofs.owing.add_owed.Given as goal

-- those of the slots before stand there
abbrev pub invariant-loop-slot : goal.invariant-loop-slot
invariant-loop-slot l =
    l.owed.items ≡ l.initial.owed.items ++ flat_map (owed_if l.who l.one) (range_with_len 0 l.slot)
