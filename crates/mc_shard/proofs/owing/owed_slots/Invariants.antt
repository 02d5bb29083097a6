use Rattle.std.proofs.Common.{◌≡◌, flat_map, slice_index_or}
use Rattle.std.specs.List.{range_with_len}
use Rattle.mc_box.specs.Boxes.{no_box}
use Rattle.mc_shard.specs.Owing.{owed_in}
use Rattle.mc_shard.proofs.owing.owed_slots.Given as goal

-- those of the boxes before stand there
abbrev pub invariant-loop-who : goal.invariant-loop-who
invariant-loop-who l =
    l.owed.items ≡ flat_map (λ who. owed_in who (slice_index_or l.boxes who no_box)) (range_with_len 0 l.who)
