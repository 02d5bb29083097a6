use Rattle.std.proofs.Common.{◌≡◌, ◌∙◌, false, true, ap, refl}
use Rattle.std.proofs.Math.Seq.{map-set_same}
use Rattle.mc_port.specs.Ends.{out_ring}
use Rattle.mc_worker.specs.Boxes.{box_of, has_items}
use Rattle.mc_worker.proofs.EndSteps.{gave, handed_back, out_kept, out_put}
use Rattle.mc_worker.proofs.Waiting.{nothing_in, something_in}
use Rattle.mc_worker.proofs.sending.send.Goals as goal

pub returns-then-has_items-clause-account : goal.returns-then-has_items-clause-account
returns-then-has_items-clause-account c =
    let box = box_of c.args.outboxes.now.boxes c.args.end in
    let on : has_items box ≡ true = cc in
    out_kept c.args.outs.now.items c.args.outboxes.now.boxes c.push.new.self.boxes c.args.end c.args.item (something_in box on) c.push.ensures.item c.push.ensures.others

pub returns-in-Err-clause-account : goal.returns-in-Err-clause-account
returns-in-Err-clause-account c =
    let box = box_of c.args.outboxes.now.boxes c.args.end in
    let off : has_items box ≡ false = cc in
    out_put c.args.outs.now.items c.args.outboxes.now.boxes c.push-in-Err.new.self.boxes c.args.end c.index_mut.result.now c.give.new.self c.args.item c.requires.port c.index_mut.ensures.value c.push-in-Err.ensures.others
    (handed_back c.index_mut.result.now c.give.new.self box (box_of c.push-in-Err.new.self.boxes c.args.end) c.args.item c.in-Err.back (nothing_in box off) c.in-Err.ensures.back
    (rw (← c.in-Err.ensures.back.same) c.push-in-Err.ensures.item))

pub returns-in-Err-clause-rings : goal.returns-in-Err-clause-rings
returns-in-Err-clause-rings c =
    map-set_same out_ring c.args.outs.now.items c.args.end c.give.new.self c.index_mut.result.now (c.give.ensures.ring ∙ ap out_ring c.index_mut.ensures.value)

pub returns-in_default-clause-account : goal.returns-in_default-clause-account
returns-in_default-clause-account c =
    let box = box_of c.args.outboxes.now.boxes c.args.end in
    let off : has_items box ≡ false = cc in
    out_put c.args.outs.now.items c.args.outboxes.now.boxes c.args.outboxes.now.boxes c.args.end c.index_mut.result.now c.give.new.self c.args.item c.requires.port c.index_mut.ensures.value (λ e apart. refl)
    (gave c.index_mut.result.now c.give.new.self box c.args.item (nothing_in box off) c.in_default.ensures.given)

pub returns-in_default-clause-rings : goal.returns-in_default-clause-rings
returns-in_default-clause-rings c =
    map-set_same out_ring c.args.outs.now.items c.args.end c.give.new.self c.index_mut.result.now (c.give.ensures.ring ∙ ap out_ring c.index_mut.ensures.value)
