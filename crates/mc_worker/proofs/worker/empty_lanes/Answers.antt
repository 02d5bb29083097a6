use Rattle.std.proofs.Common.{◌∷◌, [], ap, arith, length-append}
use Rattle.mc_lane.specs.Queue.{Queue}
use Rattle.mc_worker.proofs.Waiting.{empty_more}
use Rattle.mc_worker.proofs.worker.empty_lanes.Goals as goal

pub loop-preserved : goal.loop-preserved
loop-preserved g c = record {
  count = rw (c.in_ok-push.ensures.items, length-append c.loop.lanes.items (c.new.result ∷ [])) (omega (arith, c.loop.invariant.count));
  empty = rw c.in_ok-push.ensures.items (empty_more c.loop.lanes.items c.new.result c.loop.invariant.empty (ap (λ (q : Queue g.row.T.Denot). q.items) c.new.ensures));
}
