use Rattle.std.proofs.Common.{◌≡◌, ◌++◌, flat_map}
use Rattle.std.specs.List.{range_with_len}
use Rattle.mc_ladder.specs.Heads.{head}
use Rattle.mc_ladder.proofs.heads.put_head_line.Given as goal

-- the heads so far are appended
abbrev pub invariant-loop-column : goal.invariant-loop-column
invariant-loop-column l = l.out.items ≡ l.initial.out.items ++ flat_map (head l.style l.line l.names l.columns) (range_with_len 0 l.column)
