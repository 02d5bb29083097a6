use Rattle.std.proofs.Common.{◌≡◌, drop}
use Rattle.mc_ladder_page.specs.Cells.{path_cell}
use Rattle.mc_ladder_page.proofs.cell.path_cell.Given as goal

-- the cell by the paths that are left is that by all
abbrev pub invariant-loop-view : goal.invariant-loop-view
invariant-loop-view l = path_cell l.names (drop l.view-index l.views) l.slot ≡ path_cell l.names l.views l.slot
