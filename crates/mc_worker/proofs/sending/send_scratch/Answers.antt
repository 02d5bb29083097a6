use Rattle.std.proofs.Common.{◌∙◌, arith}
use Rattle.mc_worker.proofs.Joins.{out_joined}
use Rattle.mc_worker.proofs.sending.send_scratch.Goals as goal

pub loop-sending-preserved : goal.loop-sending-preserved
loop-sending-preserved c =
    let goes_on = rw c.in-Some.ensures.item at c.loop-sending.invariant.goes_on in
    let room = rw c.in-Some.ensures.item at c.loop-sending.invariant.room in
    record {
      goes_on = λ e end account. goes_on e end (out_joined _ _ _ _ _ (c.send_from.ensures.account e) account);
      rings = c.send_from.ensures.rings ∙ c.loop-sending.invariant.rings;
      ports = c.send_from.ensures.ports ∙ c.loop-sending.invariant.ports;
      boxes = c.send_from.ensures.boxes ∙ c.loop-sending.invariant.boxes;
      room = let one = c.send_from.ensures.room in omega (arith, room, one);
    }
