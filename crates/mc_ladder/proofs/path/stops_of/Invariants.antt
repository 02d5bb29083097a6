use Rattle.std.proofs.Common.{◌≡◌, ◌++◌, drop, map}
use Rattle.mc_ladder.specs.Columns.{column_of}
use Rattle.mc_ladder.proofs.path.stops_of.Given as goal

-- what is left makes the whole
abbrev pub invariant-loop-who : goal.invariant-loop-who
invariant-loop-who l = l.stops.items ++ map (column_of l.columns) (drop l.who-index l.boxes) ≡ map (column_of l.columns) l.boxes
