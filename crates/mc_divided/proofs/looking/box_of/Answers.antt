use Rattle.std.proofs.Common.{◌∙◌, List, length, get_or, ap, sym, arith}
use Rattle.std.proofs.lemmas.List.{get_or_default}
use Rattle.mc_box.specs.Boxes.{BoxState, no_box}
use Rattle.mc_divided.proofs.NetworkBoxes.{IsBoxRead, box_read}
use Rattle.mc_divided.proofs.looking.box_of.Goals as goal

pub bounds-boxes-number : goal.bounds-boxes-number
bounds-boxes-number c =
    let read : IsBoxRead c.args.network.now c.args.who c.index-2.result.now c.index-3.result.now =
    box_read c.args.network.now c.args.who c.index.result.now c.index-2.result.now c.index-3.result.now
    c.requires.divided c.requires.here c.index.ensures c.index-2.ensures c.index-3.ensures in
    omega (arith, read.inside, ap (λ (l : List BoxState). length l) c.boxes.ensures)

pub returns : goal.returns
returns c =
    let read : IsBoxRead c.args.network.now c.args.who c.index-2.result.now c.index-3.result.now =
    box_read c.args.network.now c.args.who c.index.result.now c.index-2.result.now c.index-3.result.now
    c.requires.divided c.requires.here c.index.ensures c.index-2.ensures c.index-3.ensures in
    c.index-boxes-number.is
    ∙ (ap (λ (l : List BoxState). get_or l c.index-2.result.now c.index-boxes-number.result) c.boxes.ensures
    ∙ (get_or_default c.index-3.result.now.part.engine.boxes c.index-2.result.now c.index-boxes-number.result no_box
    read.inside ∙ sym read.is))
