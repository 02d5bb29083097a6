use Rattle.std.proofs.Common.{◌≡◌, ◌+◌, [], arith, drop}
use Rattle.std.proofs.lemmas.Grind.{common_steps}
use Rattle.std.proofs.lemmas.List.{drop_all, drop_more}
use Rattle.mc_shard_c.proofs.Laid.{lays_all, lays_step, none_here}
use Rattle.mc_shard_c.proofs.laying.laid_out.Goals as goal

pub returns-in-Err-clause-invalid : goal.returns-in-Err-clause-invalid
returns-in-Err-clause-invalid c = λ is. c.loop-who.invariant.none
    (none_here (drop c.loop-who.who c.args.plains.now) (drop (c.loop-who.who + 1) c.args.plains.now) c.loop-who.slots.now c.split_at.result.0.now c.loop-who.states.now c.split_at-in-loop-who.result.0.now _ _ _
    (drop_more c.args.plains.now c.loop-who.who _ c.loop-who-test.true)
    c.slot_count-slot_count.ensures c.state_count-state_count.ensures c.split_at.ensures.front c.split_at-in-loop-who.ensures.front (c.in-Err.ensures.invalid is))

pub loop-who-preserved : goal.loop-who-preserved
loop-who-preserved c = lays_step c.args.plains.now c.args.all_slots.now c.args.all_states.now c.args.end_count
    (drop c.loop-who.who c.args.plains.now) (drop (c.loop-who.who + 1) c.args.plains.now)
    c.loop-who.slots.now c.split_at.result.0.now c.split_at.result.1.now c.loop-who.states.now c.split_at-in-loop-who.result.0.now c.split_at-in-loop-who.result.1.now
    c.loop-who.who c.loop-who.laying.boxes.items c.add.new.self.boxes.items c.loop-who.laying.places.items c.add.new.self.places.items c.loop-who.laying.owners.items c.add.new.self.owners.items
    _ c.slot_count-slot_count.result c.state_count-state_count.result
    (drop_more c.args.plains.now c.loop-who.who _ c.loop-who-test.true)
    c.slot_count-slot_count.ensures c.state_count-state_count.ensures c.if-slots-slot_count.false c.if-states-state_count.false
    c.split_at.ensures.front c.split_at-in-loop-who.ensures.front c.split_at.ensures.back c.split_at-in-loop-who.ensures.back
    c.in-Ok.ensures.boxes c.in-Ok.ensures.places c.in-Ok.ensures.owners c.loop-who.invariant

pub returns-clause-boxes : goal.returns-clause-boxes
returns-clause-boxes c =
    let no_slots : c.loop-who.slots.now ≡ [] = grind (arith, common_steps) in
    let no_states : c.loop-who.states.now ≡ [] = grind (arith, common_steps) in
    lays_all c.args.plains.now c.args.all_slots.now c.args.all_states.now c.args.end_count (drop c.loop-who.who c.args.plains.now)
    c.loop-who.slots.now c.loop-who.states.now c.loop-who.who c.loop-who.laying.boxes.items c.loop-who.laying.places.items c.loop-who.laying.owners.items
    (drop_all c.loop-who.who c.args.plains.now c.loop-who-test.false) no_slots no_states c.loop-who.invariant
