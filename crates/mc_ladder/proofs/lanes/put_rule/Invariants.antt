use Rattle.std.proofs.Common.{◌≡◌, ◌++◌, flat_map}
use Rattle.std.specs.List.{range_with_len}
use Rattle.mc_ladder.specs.Lanes.{rule_column}
use Rattle.mc_ladder.proofs.lanes.put_rule.Given as goal

-- the columns so far are appended
abbrev pub invariant-loop-column : goal.invariant-loop-column
invariant-loop-column l = l.out.items ≡ l.initial.out.items ++ flat_map (rule_column l.style l.columns) (range_with_len 0 l.column)
