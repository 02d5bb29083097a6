use Rattle.std.proofs.Common.{◌≡◌, ◌++◌, flat_map}
use Rattle.std.specs.List.{range_with_len}
use Rattle.mc_ladder_svg.specs.PathRows.{stop_class}
use Rattle.mc_ladder_svg.proofs.path.put_boxes.Given as goal

-- the classes of the columns so far are appended
abbrev pub invariant-loop-column : goal.invariant-loop-column
invariant-loop-column l = l.out.items ≡ l.initial.out.items ++ flat_map (stop_class l.stops) (range_with_len 0 l.column)
