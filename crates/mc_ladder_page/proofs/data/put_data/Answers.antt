use Rattle.std.proofs.Common.{◌∙◌, ap}
use Rattle.std.proofs.lemmas.Result.{on_ok_weaker}
use Rattle.mc_program_lines.specs.Programs.{words_of}
use Rattle.mc_ladder_page.proofs.Rows.{data_whole}
use Rattle.mc_ladder_page.proofs.data.put_data.Goals as goal

pub returns : goal.returns
returns c =
    on_ok_weaker c.put_bytes.result
    (λ last. data_whole c.args.names.now c.args.blocks.now c.args.world.now c.args.journal.now c.args.out.now.items c.put_network.new.out.items c.put_first_row.new.out.items c.put_rows.new.out.items
    c.put_bytes.new.out.items (words_of c.deref.result.now) c.in_ok-put_network.ensures c.in_ok-put_first_row.ensures (ap words_of c.deref.ensures.value ∙ c.in_ok-cells.ensures)
    c.in_ok-put_rows.ensures last)
    c.put_bytes.ensures
