use Rattle.mc_worker.specs.Boxes.{items_of}
use Rattle.mc_worker.proofs.Waiting.{waiting_so_far}
use Rattle.mc_worker.proofs.inboxes.waiting_in.Goals as goal

pub loop-end-preserved : goal.loop-end-preserved
loop-end-preserved c = waiting_so_far (items_of c.args.lanes.now.items) c.loop-end.waiting c.set.new.self c.loop-end.end c.is_waiting.result c.loop-end.invariant c.is_waiting.ensures c.set.ensures
