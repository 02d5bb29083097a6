use Rattle.std.proofs.Common.{◌≡◌, flat_map, take}
use Rattle.mc_table.specs.Whys.{why_lines}
use Rattle.mc_table.proofs.whys.print_whys.Given as goal

-- the lines of the paths so far
abbrev pub invariant-loop-view : goal.invariant-loop-view
invariant-loop-view l = l.text.items ≡ flat_map (λ view. why_lines view.flowing l.names l.whys view) (take l.view-index l.views)
