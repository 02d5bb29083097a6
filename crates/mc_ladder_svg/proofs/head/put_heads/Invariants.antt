use Rattle.std.proofs.Common.{◌≡◌, ◌++◌, flat_map}
use Rattle.std.specs.List.{range_with_len}
use Rattle.mc_ladder_svg.specs.Heads.{head}
use Rattle.mc_ladder_svg.proofs.head.put_heads.Given as goal

-- the heads so far are appended
abbrev pub invariant-loop-column : goal.invariant-loop-column
invariant-loop-column l = l.out.items ≡ l.initial.out.items ++ flat_map (head l.names l.world l.columns) (range_with_len 0 l.column)
