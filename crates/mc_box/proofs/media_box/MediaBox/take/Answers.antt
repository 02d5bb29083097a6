use Rattle.std.proofs.Common.{◌≤◌, ap, arith, length, rules}
use Rattle.mc_box.proofs.Taking.{adds_all, sends_length}
use Rattle.mc_box.proofs.media_box.MediaBox.take.Goals as goal

pub send_take-requires-clause-room : goal.send_take-requires-clause-room
send_take-requires-clause-room c =
    let fits : c.none-sends.result.len ≤ length c.none-sends.result.at = search rules in
    omega (arith, sends_length c.none-sends.result fits, ap length c.none-sends.ensures)

pub returns-clause-event : goal.returns-clause-event
returns-clause-event c = adds_all _ _ c.none-sends.result c.send_take.new.sends c.none-sends.ensures c.send_take.ensures.event

pub returns-clause-few : goal.returns-clause-few
returns-clause-few c =
    let fits : c.none-sends.result.len ≤ length c.none-sends.result.at = search rules in
    omega (arith, sends_length c.none-sends.result fits, ap length c.none-sends.ensures, c.send_take.ensures.few)
