use Rattle.std.proofs.Common.{◌≡◌, ap, arith, max, min, sym, ◌∙◌}
use Rattle.mc_slot.specs.declared.Slot.{Slot}
use Rattle.mc_box.specs.BoxSound.{box_state}
use Rattle.mc_box.specs.Boxes.{slot_at}
use Rattle.mc_box.proofs.Held.{high_inside}
use Rattle.mc_box.proofs.Loaded.{pair_at, slot_read}
use Rattle.mc_box.proofs.parts.BoxParts.link_rests_at.Goals as goal

pub index-high-requires : goal.index-high-requires
index-high-requires c =
    let high = high_inside (box_state c.args.self.now) c.args.local c.args.partner c.requires.wired c.requires.here c.requires.linked in
    omega (arith, high, c.max.ensures, c.args.self.now.slots.ok.0)

pub link_rests-requires-clause-medium : goal.link_rests-requires-clause-medium
link_rests-requires-clause-medium c =
    let inside = high_inside (box_state c.args.self.now) c.args.local c.args.partner c.requires.wired c.requires.here c.requires.linked in
    let low : c.index-low.result.now ≡ slot_at (box_state c.args.self.now) (min c.args.local c.args.partner) =
    slot_read c.args.self.now.slots.items c.index-low.result.now c.min.result (min c.args.local c.args.partner) c.min.ensures (omega (arith, inside, c.min.ensures)) c.index-low.ensures in
    let high : c.index-high.result.now ≡ slot_at (box_state c.args.self.now) (max c.args.local c.args.partner) =
    slot_read c.args.self.now.slots.items c.index-high.result.now c.max.result (max c.args.local c.args.partner) c.max.ensures (omega (arith, inside, c.max.ensures)) c.index-high.ensures in
    ap (λ (s : Slot). s.medium) low
    ∙ ((pair_at (box_state c.args.self.now) c.args.local c.args.partner c.requires.wired c.requires.linked).medium
    ∙ sym (ap (λ (s : Slot). s.medium) high))
