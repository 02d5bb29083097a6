use Rattle.std.proofs.Common.{◌≡◌, ◌++◌, flat_map}
use Rattle.std.specs.List.{range_with_len}
use Rattle.mc_ladder.specs.Marks.{mark_column}
use Rattle.mc_ladder.proofs.mark.put_mark.Given as goal

-- the columns so far are appended
abbrev pub invariant-loop-column : goal.invariant-loop-column
invariant-loop-column l = l.out.items ≡ l.initial.out.items ++ flat_map (mark_column l.style l.mark l.word) (range_with_len 0 l.column)
