use Rattle.std.proofs.Common.{refl}
use Rattle.mc_program_lines.specs.Programs.{words_of}
use Rattle.mc_ladder_page.specs.Cells.{slot_cells}
use Rattle.mc_ladder_page.proofs.Rows.{slot_more}
use Rattle.mc_ladder_page.proofs.cell.put_slot_cells.Goals as goal

pub loop-slot-preserved : goal.loop-slot-preserved
loop-slot-preserved c =
    slot_more (slot_cells c.args.names.now c.args.world.now c.args.views.now) (words_of c.args.cells.now.items) c.loop-slot.cells.items c.push.new.self.items c.push-in-loop-slot.new.self.items c.push-in-loop-slot-2.new.self.items
    c.in_ok-slot_cell.field-0 c.in_ok-media_cell.field-0 c.in_ok-path_cell.field-0 c.loop-slot.slot c.loop-slot.invariant
    (rw (c.in_ok-slot_cell.ensures, c.in_ok-media_cell.ensures, c.in_ok-path_cell.ensures) refl)
    c.in_ok-push.ensures.items c.in_ok-push-2.ensures.items c.in_ok-push-3.ensures.items
