use Rattle.mc_program_lines.specs.Programs.{words_of}
use Rattle.mc_ladder_page.proofs.Rows.{line_more}
use Rattle.mc_ladder_page.proofs.data.put_rows.Goals as goal

pub loop-line-preserved : goal.loop-line-preserved
loop-line-preserved c =
    line_more c.args.names.now c.args.blocks.now c.args.world.now c.args.journal.now c.args.out.now.items c.loop-line.world c.put_row.new.world (words_of c.loop-line.cells.items)
    (words_of c.in_ok-cells.cells.items) c.loop-line.passed c.after-passed.result c.loop-line.line-index _ c.loop-line.out.items c.put_row.new.out.items c.loop-line-test.true
    c.in_ok-cells.ensures.row c.in_ok-cells.ensures.made c.after-passed.ensures c.in_ok-cells.ensures.cells c.loop-line.invariant
