use Rattle.std.proofs.Common.{◌≡◌, ◌++◌}
use Rattle.mc_program_lines.specs.Programs.{words_of}
use Rattle.mc_ladder_page.specs.Cells.{all_box_cells}
use Rattle.mc_ladder_page.proofs.cell.put_box_cells.Given as goal

-- the cells of the boxes so far are appended
abbrev pub invariant-loop-who : goal.invariant-loop-who
invariant-loop-who l = words_of l.cells.items ≡ words_of l.initial.cells.items ++ all_box_cells l.names l.blocks l.world l.who
