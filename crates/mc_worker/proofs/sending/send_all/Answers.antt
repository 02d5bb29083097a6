use Rattle.std.proofs.Common.{◌∙◌, arith}
use Rattle.mc_port.specs.Tunnels.{tunnels_at}
use Rattle.mc_worker.proofs.EndSteps.{sends_more}
use Rattle.mc_worker.proofs.Joins.{out_joined}
use Rattle.mc_worker.proofs.sending.send_all.Goals as goal

pub loop-sending-preserved : goal.loop-sending-preserved
loop-sending-preserved c = record {
  account = λ e. rw (sends_more (tunnels_at c.args.place.now e) c.args.stamp c.args.sendings.now c.loop-sending.sending-index c.sending-item.result c.loop-sending-test.true c.sending-item.is)
      (out_joined _ _ _ _ _ (c.loop-sending.invariant.account e) (c.send_from.ensures.account e));
  rings = c.send_from.ensures.rings ∙ c.loop-sending.invariant.rings;
  ports = c.send_from.ensures.ports ∙ c.loop-sending.invariant.ports;
  boxes = c.send_from.ensures.boxes ∙ c.loop-sending.invariant.boxes;
  room = let one = c.send_from.ensures.room in omega (arith, c.loop-sending.invariant.room, one);
}
