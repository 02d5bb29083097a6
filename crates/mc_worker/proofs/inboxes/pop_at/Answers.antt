use Rattle.mc_worker.proofs.Waiting.{box_at_end, box_else, box_set}
use Rattle.mc_worker.proofs.inboxes.pop_at.Goals as goal

pub returns-clause-item : goal.returns-clause-item
returns-clause-item c =
    rw (box_at_end c.args.lanes.now.items c.args.at c.index_mut.result.now c.requires c.index_mut.ensures.value, box_set c.args.lanes.now.items c.args.at c.pop.new.self c.requires) c.pop.ensures.item

pub returns-clause-others : goal.returns-clause-others
returns-clause-others c e off = box_else c.args.lanes.now.items c.args.at e c.pop.new.self off
