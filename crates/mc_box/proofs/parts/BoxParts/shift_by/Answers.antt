use Rattle.std.proofs.Common.{sym, subst}
use Rattle.mc_box.specs.BoxSound.{box_state, IsWired}
use Rattle.mc_box.specs.Boxes.{BoxState}
use Rattle.mc_box.proofs.Shifting.{shifted_wired}
use Rattle.mc_box.proofs.parts.BoxParts.shift_by.Goals as goal

pub changed_steps-requires-clause-wired : goal.changed_steps-requires-clause-wired
changed_steps-requires-clause-wired c =
    subst (λ (b : BoxState). IsWired b) (sym c.shift.ensures) (shifted_wired (box_state c.args.self.now) c.args.shift c.requires.sound c.requires.enabled)
