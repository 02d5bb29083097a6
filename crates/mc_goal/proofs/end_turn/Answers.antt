use Rattle.std.proofs.Common.{◌≤◌, ap, arith, length, length-take-le, rules}
use Rattle.mc_goal.proofs.Few.{due_two}
use Rattle.mc_goal.proofs.end_turn.Goals as goal

pub send_end_turn-requires-clause-room : goal.send_end_turn-requires-clause-room
send_end_turn-requires-clause-room c =
    let fits : c.none-sends.result.len ≤ length c.none-sends.result.at = search rules in
    omega (
      arith,
      length-take-le c.none-sends.result.len c.none-sends.result.at fits,
      ap length c.none-sends.ensures,
      due_two c.args.goal c.args.slot.now c.args.push c.args.own c.args.me.now,
    )

pub returns-clause-few : goal.returns-clause-few
returns-clause-few c =
    let fits : c.none-sends.result.len ≤ length c.none-sends.result.at = search rules in
    omega (
      arith,
      length-take-le c.none-sends.result.len c.none-sends.result.at fits,
      ap length c.none-sends.ensures,
      c.send_end_turn.ensures.len,
      due_two c.args.goal c.args.slot.now c.args.push c.args.own c.args.me.now,
    )
