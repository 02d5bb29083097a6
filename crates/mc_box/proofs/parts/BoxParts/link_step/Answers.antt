use Rattle.mc_box.specs.BoxSound.{box_state}
use Rattle.mc_box.proofs.Held.{high_inside}
use Rattle.mc_box.proofs.parts.BoxParts.link_step.Goals as goal

pub pair_step-requires-clause-here : goal.pair_step-requires-clause-here
pair_step-requires-clause-here c =
    rw c.max.ensures (high_inside (box_state c.args.self.now) c.args.local c.args.partner c.requires.wired c.requires.here c.requires.linked)
