use Rattle.std.proofs.Common.{◌≤◌, ap, arith, length, length-take-le, rules}
use Rattle.mc_link.proofs.LinkFour.{link_four}
use Rattle.mc_link.proofs.link_turn.Goals as goal

pub send_link_turn-requires-clause-room : goal.send_link_turn-requires-clause-room
send_link_turn-requires-clause-room c =
    let fits : c.none-sends.result.len ≤ length c.none-sends.result.at = search rules in
    omega (
      arith,
      length-take-le c.none-sends.result.len c.none-sends.result.at fits,
      ap length c.none-sends.ensures,
      link_four c.args.closed_by_far c.args.a.now c.args.b.now,
    )
