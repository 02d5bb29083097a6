use Rattle.std.proofs.Common.{◌≡◌, ◌++◌, drop, length, take, ap, sym, ◌∙◌, rules}
use Rattle.std.proofs.Math.ListN.{set, length-set}
use Rattle.std.proofs.lemmas.List.{with_items_is}
use Rattle.mc_box.specs.BoxSound.{box_state}
use Rattle.mc_box.proofs.Pairs.{pair_made, read_before, read_seam, set_both}
use Rattle.mc_box.proofs.parts.BoxParts.pair_step.Goals as goal

pub returns-clause-turn : goal.returns-clause-turn
returns-clause-turn c =
    let slots = c.args.self.now.slots in
    let first = c.send_link_turn.new.a in
    let second = c.send_link_turn.new.b in
    let lower : c.split_at_mut-lower.result.0.now ≡ take c.args.high slots.items = search rules in
    let rest : c.split_at_mut-lower.result.1.now ≡ drop c.args.high slots.items = search rules in
    let joined : set c.split_at_mut-lower.result.0.now c.args.low first ++ set c.split_at_mut-lower.result.1.now 0 second ≡ set (set slots.items c.args.low first) c.args.high second =
    rw (lower, rest) (set_both slots.items c.args.low c.args.high first second c.requires.order c.requires.here) in
    let size : length (set c.split_at_mut-lower.result.0.now c.args.low first ++ set c.split_at_mut-lower.result.1.now 0 second) ≡ slots.len =
    ap length joined ∙ (length-set (set slots.items c.args.low first) c.args.high second ∙ (length-set slots.items c.args.low first ∙ sym slots.ok.0)) in
    pair_made (box_state c.args.self.now) c.args.low c.args.high c.args.closed _ _ first second _ _ _
    (read_before slots.items c.split_at_mut-lower.result.0.now c.args.low c.args.high c.index-lower-low.result c.requires.order c.requires.here lower c.index-lower-low.is)
    (read_seam slots.items c.split_at_mut-lower.result.1.now c.args.high c.index-rest-0.result c.requires.here rest c.index-rest-0.is)
    (with_items_is slots (set c.split_at_mut-lower.result.0.now c.args.low first ++ set c.split_at_mut-lower.result.1.now 0 second) size ∙ joined)
    c.send_link_turn.ensures.first c.send_link_turn.ensures.second c.send_link_turn.ensures.sends
