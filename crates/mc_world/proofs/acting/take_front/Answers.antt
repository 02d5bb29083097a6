use Rattle.std.proofs.Common.{◌≡◌, ◌≤◌, ap, length, Some, arith, rules}
use Rattle.mc_slot.specs.Sending.{sends_of}
use Rattle.mc_slot.specs.declared.sends.TheConstants.{SENDS_LIMIT}
use Rattle.mc_box.specs.BoxEvents.{box_event}
use Rattle.mc_box.specs.declared.event.Event.TheVariants.{Take}
use Rattle.mc_box.proofs.Taking.{adds_all, sends_length}
use Rattle.mc_world.proofs.TakeSends.{room_by}
use Rattle.mc_world.proofs.acting.take_front.Goals as goal

pub send_take-requires-clause-room : goal.send_take-requires-clause-room
send_take-requires-clause-room c =
    let fits : c.none-sends.result.len ≤ length c.none-sends.result.at = search rules in
    omega (arith, sends_length c.none-sends.result fits, ap length c.none-sends.ensures)

pub relay-requires-clause-room : goal.relay-requires-clause-room
relay-requires-clause-room c k d below s is lane =
    let goes : box_event c.args.home.now (Take c.args.senders.now.own.0) (Some c.args.signal) ≡ Some (record { sent = sends_of c.send_take.new.sends; after = c.send_take.new.self }) =
    adds_all _ _ c.none-sends.result c.send_take.new.sends c.none-sends.ensures c.send_take.ensures.event in
    let room = room_by c.args.topology.now c.make_room_by.new.lanes c.args.who c.args.home.now c.args.senders.now SENDS_LIMIT c.args.signal _ c.keeps.ensures goes c.requires.senders c.requires.beside
    c.in_ok-make_room_by.ensures.own c.in_ok-make_room_by.ensures.partner k d below s is lane in
    omega (arith, room, c.send_take.new.sends.short)
