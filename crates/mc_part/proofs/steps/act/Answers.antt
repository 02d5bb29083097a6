use Rattle.std.proofs.Common.{◌≡◌, subst}
use Rattle.mc_box.specs.BoxEvents.{turn_of}
use Rattle.mc_box.specs.BoxSound.{IsSoundBox}
use Rattle.mc_box.specs.Boxes.{BoxState}
use Rattle.mc_model.specs.Worlds.{box_at}
use Rattle.mc_world.specs.declared.network.step.StepFault.{StepFault}
use Rattle.mc_part.specs.Parts.{IsRefused}
use Rattle.mc_part.proofs.Turned.{can_act, read_box}
use Rattle.mc_part.proofs.steps.act.Goals as goal

pub unreachable-requires : goal.unreachable-requires
unreachable-requires g c =
    let a = c.args.part.now in
    let box : c.index-boxes-who.result ≡ box_at a.engine c.args.who = read_box a.engine c.boxes.result.now c.args.who c.index-boxes-who.result c.boxes.ensures c.requires.here c.index-boxes-who.is in
    can_act a.engine c.args.who c.args.event c.requires.here (subst (λ (x : BoxState). IsSoundBox x) box c.keeps.ensures) c.requires.other c.requires.enabled c.requires.goes_on
    (subst (λ (f : StepFault). IsRefused a.engine (turn_of c.args.who c.args.event) f) c.in-Err-NotEnabled.field-0-is c.in-Err-NotEnabled.ensures.refused)
