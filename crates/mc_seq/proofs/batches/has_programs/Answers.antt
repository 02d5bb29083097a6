use Rattle.std.proofs.Common.{List, ap, ◌∙◌, is_some}
use Rattle.std.specs.List.{list_any}
use Rattle.mc_box.specs.Boxes.{BoxState}
use Rattle.mc_seq.proofs.Unprogrammed.{unprogrammed_is}
use Rattle.mc_seq.proofs.batches.has_programs.Goals as goal

pub returns : goal.returns
returns c =
    unprogrammed_is c.args.world.now c.some_has_program.result
    (c.some_has_program.ensures ∙ ap (λ (boxes : List BoxState). list_any (λ (one : BoxState). is_some one.program) boxes) c.boxes.ensures)
