use Rattle.std.proofs.Common.{ap}
use Rattle.mc_lane.specs.Queue.{Queue}
use Rattle.mc_signal.specs.declared.Tagged.{Tagged}
use Rattle.mc_world.proofs.NewLanes.{two_more}
use Rattle.mc_world.proofs.network.empty_lanes.Goals as goal

pub loop-done-preserved : goal.loop-done-preserved
loop-done-preserved c =
    rw (c.in_ok-push-2.ensures.items, c.in_ok-push.ensures.items)
    (two_more c.loop-done.lanes.items c.new.result c.new-in-loop-done.result c.loop-done._done c.loop-done.invariant (ap (λ (q : Queue Tagged). q.items) c.new.ensures) (ap (λ (q : Queue Tagged). q.items) c.new-in-loop-done.ensures))
