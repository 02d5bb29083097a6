use Rattle.std.proofs.Common.{arith}
use Rattle.mc_worker.proofs.EndSteps.{at_map}
use Rattle.mc_worker.proofs.Waiting.{box_at_end, box_else, box_set, spare_kept}
use Rattle.mc_worker.proofs.outboxes.push_at.Goals as goal

pub push-requires : goal.push-requires
push-requires c = rw (at_map (λ q. q.spare) c.args.lanes.now.items c.args.at c.index_mut.result.now 0 c.requires.at c.index_mut.ensures.value) at c.requires.room

pub returns-clause-item : goal.returns-clause-item
returns-clause-item c =
    rw (box_at_end c.args.lanes.now.items c.args.at c.index_mut.result.now c.requires.at c.index_mut.ensures.value, box_set c.args.lanes.now.items c.args.at c.push.new.self c.requires.at) c.push.ensures.items

pub returns-clause-others : goal.returns-clause-others
returns-clause-others c e off = box_else c.args.lanes.now.items c.args.at e c.push.new.self off

pub returns-clause-room : goal.returns-clause-room
returns-clause-room c e = spare_kept c.args.lanes.now.items c.args.at 1 c.index_mut.result.now c.push.new.self c.requires.at c.index_mut.ensures.value (let room = c.push.ensures.room in omega (arith, room)) e
