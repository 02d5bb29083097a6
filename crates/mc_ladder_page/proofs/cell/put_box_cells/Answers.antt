use Rattle.std.proofs.Common.{sym}
use Rattle.mc_program_lines.specs.Programs.{words_of}
use Rattle.mc_ladder_page.specs.Cells.{box_cell}
use Rattle.mc_ladder_page.proofs.Rows.{box_more}
use Rattle.mc_ladder_page.proofs.cell.put_box_cells.Goals as goal

pub loop-who-preserved : goal.loop-who-preserved
loop-who-preserved c =
    box_more (box_cell c.args.names.now c.args.blocks.now c.args.world.now) (words_of c.args.cells.now.items) c.loop-who.cells.items c.push.new.self.items
    c.in_ok-box_cell.field-0 c.loop-who.who c.loop-who.invariant (sym c.in_ok-box_cell.ensures) c.in_ok-push.ensures.items
