use Rattle.std.proofs.Common.{arith}
use Rattle.mc_flight.proofs.Tallying.{sends}
use Rattle.mc_flight.proofs.flight.Flight.sent.Goals as goal

pub fetch_add-requires : goal.fetch_add-requires
fetch_add-requires c =
    (c.requires.seat.counter, omega (arith, c.args.self.now.words), sends _ _ _ c.args.seat.now.seat.me c.args.seat.now.lives c.requires.room)
