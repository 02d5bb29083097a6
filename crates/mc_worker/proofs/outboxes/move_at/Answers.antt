use Rattle.std.proofs.Common.{arith}
use Rattle.mc_worker.proofs.Waiting.{box_at_end, box_else, box_set, spare_kept}
use Rattle.mc_worker.proofs.outboxes.move_at.Goals as goal

pub returns-clause-emptied : goal.returns-clause-emptied
returns-clause-emptied c = rw (box_set c.args.lanes.now.items c.args.at c.move_lane.new.from c.requires) c.move_lane.ensures.emptied

pub returns-clause-moved : goal.returns-clause-moved
returns-clause-moved c = rw (box_at_end c.args.lanes.now.items c.args.at c.index_mut.result.now c.requires c.index_mut.ensures.value) c.move_lane.ensures.moved

pub returns-clause-kept : goal.returns-clause-kept
returns-clause-kept c =
    rw (box_set c.args.lanes.now.items c.args.at c.move_lane.new.from c.requires, box_at_end c.args.lanes.now.items c.args.at c.index_mut.result.now c.requires c.index_mut.ensures.value) c.move_lane.ensures.kept

pub returns-clause-others : goal.returns-clause-others
returns-clause-others c e off = box_else c.args.lanes.now.items c.args.at e c.move_lane.new.from off

pub returns-clause-room : goal.returns-clause-room
returns-clause-room c e =
    let kept = spare_kept c.args.lanes.now.items c.args.at 0 c.index_mut.result.now c.move_lane.new.from c.requires c.index_mut.ensures.value (let room = c.move_lane.ensures.room in omega (arith, room)) e in
    omega (arith, kept)
