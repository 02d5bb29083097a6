use Rattle.std.proofs.Common.{◌≡◌, ◌++◌, flat_map, take}
use Rattle.mc_ladder.specs.Settling.{path_rows}
use Rattle.mc_ladder.proofs.settle.put_all_rows.Given as goal

-- the rows of the paths so far are appended
abbrev pub invariant-loop-view : goal.invariant-loop-view
invariant-loop-view l = l.out.items ≡ l.fn.out.items ++ flat_map (path_rows l.frame l.names l.world l.whys) (take l.view-index l.views)
