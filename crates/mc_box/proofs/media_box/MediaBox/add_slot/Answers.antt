use Rattle.mc_box.specs.BoxSound.{box_state}
use Rattle.mc_box.specs.Boxes.{BoxState}
use Rattle.std.proofs.Common.{◌≡◌, ◌<◌, length, None, subst, sym, ap, ◌∙◌}
use Rattle.mc_box.specs.declared.limit.TheConstants.{SLOT_LIMIT}
use Rattle.mc_box.proofs.AddedSlots.{added_or_not}
use Rattle.mc_box.proofs.media_box.MediaBox.add_slot.Goals as goal

pub invariant_of-self : goal.invariant_of-self
invariant_of-self c =
    added_or_not c.add_slot.result (box_state c.self.inside.parts) (box_state c.add_slot.new.self) c.args.setup c.self.invariant
    (subst (λ (b : BoxState). length b.slots < SLOT_LIMIT) (sym c.self.view_is) c.requires.room)
    (subst (λ (b : BoxState). b.program ≡ None) (sym c.self.view_is) c.requires.unprogrammed)
    c.add_slot.ensures.added c.add_slot.ensures.unchanged
