use Rattle.std.proofs.Common.{◌+◌, ◌*◌, ◌≤◌, length, subst}
use Rattle.mc_box.specs.BoxSound.{box_state}
use Rattle.mc_box.specs.Boxes.{BoxState}
use Rattle.mc_box.proofs.Acting.{act_few, act_sound}
use Rattle.mc_box.proofs.media_box.MediaBox.act.Goals as goal

pub invariant_of-self : goal.invariant_of-self
invariant_of-self c =
    act_sound c.act.result (box_state c.self.inside.parts) (box_state c.act.new.self) c.args.e c.args.out.now c.act.new.out c.self.invariant c.act.ensures.sent c.act.ensures.unchanged

pub returns-clause-few : goal.returns-clause-few
returns-clause-few c =
    subst (λ (b : BoxState). length c.act.new.out.items ≤ length c.args.out.now.items + 2 * length b.slots) c.self.view_is
    (act_few c.act.result (box_state c.self.inside.parts) (box_state c.act.new.self) c.args.e c.args.out.now c.act.new.out c.self.invariant c.act.ensures.sent c.act.ensures.unchanged)
