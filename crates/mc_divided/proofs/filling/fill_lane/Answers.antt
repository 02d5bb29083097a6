use Rattle.std.proofs.Common.{arith}
use Rattle.mc_divided.proofs.LaneFills.{one_put}
use Rattle.mc_divided.proofs.filling.fill_lane.Goals as goal

pub loop-place-preserved : goal.loop-place-preserved
loop-place-preserved c =
    one_put c.args.engine.now c.loop-place.engine c.put_last.new.engine c.args.lane c.loop-place.place c.args.signals.now.items c.get.result c.loop-place.invariant c.in_ok-put_last.ensures.put
    c.in_ok-put_last.ensures.there c.get.ensures (omega arith)
