use Rattle.std.proofs.Common.{◌<◌, length, subst, sym}
use Rattle.mc_box.specs.BoxSound.{box_state}
use Rattle.mc_box.specs.Boxes.{BoxState}
use Rattle.mc_box.proofs.Events.{take_sound}
use Rattle.mc_box.proofs.media_box.MediaBox.send_take.Goals as goal

pub invariant_of-self : goal.invariant_of-self
invariant_of-self c =
    take_sound (box_state c.self.inside.parts) c.args.slot c.args.s _ c.self.invariant
    (subst (λ (b : BoxState). c.args.slot < length b.slots) (sym c.self.view_is) c.requires.here) c.send_take.ensures.step.goes
