use Rattle.std.proofs.Common.{◌≡◌, ◌++◌, flat_map}
use Rattle.std.specs.List.{range_with_len}
use Rattle.mc_ladder_svg.specs.Elements.{upright}
use Rattle.mc_ladder_svg.proofs.element.put_each_upright.Given as goal

-- the lines of the columns so far are appended
abbrev pub invariant-loop-column : goal.invariant-loop-column
invariant-loop-column l = l.out.items ≡ l.initial.out.items ++ flat_map (upright l.top l.bottom) (range_with_len 0 l.column)
