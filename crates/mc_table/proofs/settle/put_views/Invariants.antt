use Rattle.std.proofs.Common.{◌≡◌, ◌++◌, flat_map, take}
use Rattle.mc_table.specs.Shown.{view_text}
use Rattle.mc_table.proofs.settle.put_views.Given as goal

-- the lines of the paths so far stand after what was there
abbrev pub invariant-loop-view : goal.invariant-loop-view
invariant-loop-view l = l.out.items ≡ l.fn.out.items ++ flat_map (view_text l.names) (take l.view-index l.views)
