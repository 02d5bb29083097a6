use Rattle.mc_worker.proofs.Waiting.{box_at_end, box_count, box_else, box_set}
use Rattle.mc_worker.proofs.inboxes.bring_to.Goals as goal

pub returns-clause-carried : goal.returns-clause-carried
returns-clause-carried c =
    rw (box_at_end c.args.lanes.now.items c.args.at c.index_mut.result.now c.requires.at c.index_mut.ensures.value, box_set c.args.lanes.now.items c.args.at c.bring_into.new.lane c.requires.at) c.bring_into.ensures.carried

pub returns-clause-boxes : goal.returns-clause-boxes
returns-clause-boxes c = record {
  others = λ e off. box_else c.args.lanes.now.items c.args.at e c.bring_into.new.lane off;
  count = box_count c.args.lanes.now.items c.args.at c.bring_into.new.lane;
}
