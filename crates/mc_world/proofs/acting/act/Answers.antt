use Rattle.std.proofs.Common.{◌∙◌, ap, length, sym, arith}
use Rattle.mc_world.proofs.TakeSends.{ok_holds, may_send, made_appended}
use Rattle.mc_world.proofs.acting.act.Goals as goal

pub send_lane-requires-clause-room : goal.send_lane-requires-clause-room
send_lane-requires-clause-room c k d below s is lane =
    let made = ok_holds c.act.result _ (sym c.is_err.ensures.value ∙ c.if-is_err.false) c.act.ensures.event in
    let goes = made_appended _ _ _ _ (c.in_ok-reserve.ensures.items ∙ c.requires.none) made in
    let room = c.in_ok-make_room_for.ensures.room _ (may_send c.args.home.now c.args.event _ k d goes below) s is lane in
    omega (arith, room, c.act.ensures.few, ap length (c.in_ok-reserve.ensures.items ∙ c.requires.none), ap length c.slots.ensures.slots)
