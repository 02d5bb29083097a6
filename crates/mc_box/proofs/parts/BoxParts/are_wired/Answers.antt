use Rattle.mc_box.specs.BoxSound.{box_state}
use Rattle.mc_box.specs.Loading.{IsWiredAt}
use Rattle.mc_box.proofs.Loaded.{and_this}
use Rattle.mc_box.proofs.parts.BoxParts.are_wired.Goals as goal

pub loop-local-preserved : goal.loop-local-preserved
loop-local-preserved c =
    and_this (λ local. IsWiredAt (box_state c.args.self.now) local) c.loop-local.local c.loop-local.invariant
    c.if-not-is_wired_at.ensures
