use Rattle.std.proofs.Common.{◌≡◌, [], map}
use Rattle.std.specs.List.{range_with_len}
use Rattle.mc_model.specs.Worlds.{place}
use Rattle.mc_ladder.specs.Columns.{with_all_new}
use Rattle.mc_ladder.proofs.column.joined_boxes.Given as goal

-- the boxes of the slots so far have columns
abbrev pub invariant-loop-slot : goal.invariant-loop-slot
invariant-loop-slot l = l.columns.items ≡ with_all_new [] (map (λ s. (place l.world s).0) (range_with_len 0 l.slot))
