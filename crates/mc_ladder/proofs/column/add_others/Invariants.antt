use Rattle.std.proofs.Common.{◌≡◌}
use Rattle.std.specs.List.{range_with_len}
use Rattle.mc_ladder.specs.Columns.{with_all_new}
use Rattle.mc_ladder.proofs.column.add_others.Given as goal

-- the boxes so far have columns
abbrev pub invariant-loop-who : goal.invariant-loop-who
invariant-loop-who l = l.columns.items ≡ with_all_new l.initial.columns.items (range_with_len 0 l.who)
