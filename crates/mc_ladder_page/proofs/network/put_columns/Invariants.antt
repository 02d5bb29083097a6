use Rattle.std.proofs.Common.{◌≡◌, ◌++◌, flat_map}
use Rattle.std.specs.List.{range_with_len}
use Rattle.mc_ladder_page.specs.Data.{column_entry}
use Rattle.mc_ladder_page.proofs.network.put_columns.Given as goal

-- the entries so far are appended
abbrev pub invariant-loop-column : goal.invariant-loop-column
invariant-loop-column l =
    l.out.items ≡ l.initial.out.items ++ flat_map (column_entry l.names l.world l.columns) (range_with_len 0 l.column)
