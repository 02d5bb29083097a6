use Rattle.std.proofs.Common.{◌≡◌, ◌++◌}
use Rattle.mc_program_lines.specs.Programs.{words_of}
use Rattle.mc_ladder_page.specs.Cells.{all_slot_cells}
use Rattle.mc_ladder_page.proofs.cell.put_slot_cells.Given as goal

-- the cells of the slots so far are appended
abbrev pub invariant-loop-slot : goal.invariant-loop-slot
invariant-loop-slot l = words_of l.cells.items ≡ words_of l.initial.cells.items ++ all_slot_cells l.names l.world l.views l.slot
