use Rattle.std.proofs.Common.{length, ap, ◌∙◌}
use Rattle.mc_box.specs.BoxSound.{box_state}
use Rattle.mc_box.proofs.Shifting.{target_fits}
use Rattle.mc_box.proofs.parts.BoxParts.shift.Goals as goal

pub copy_goals-requires-clause-here : goal.copy_goals-requires-clause-here
copy_goals-requires-clause-here c =
    (target_fits (box_state c.args.self.now) c.args.shift c.in-Some.program c.requires.wired c.requires.enabled c.in-Some.is).0

pub copy_goals-requires-clause-size : goal.copy_goals-requires-clause-size
copy_goals-requires-clause-size c =
    ap length c.deref_mut.ensures.value
    ∙ (target_fits (box_state c.args.self.now) c.args.shift c.in-Some.program c.requires.wired c.requires.enabled c.in-Some.is).1
