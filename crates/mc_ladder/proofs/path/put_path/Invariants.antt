use Rattle.std.proofs.Common.{◌≡◌, ◌++◌, flat_map}
use Rattle.std.specs.List.{range_with_len}
use Rattle.mc_ladder.specs.Routes.{path_column}
use Rattle.mc_ladder.proofs.path.put_path.Given as goal

-- the columns so far are appended
abbrev pub invariant-loop-column : goal.invariant-loop-column
invariant-loop-column l = l.out.items ≡ l.initial.out.items ++ flat_map (path_column l.style l.ends l.stops) (range_with_len 0 l.column)
