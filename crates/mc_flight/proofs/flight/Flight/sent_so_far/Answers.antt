use Rattle.std.proofs.Common.{arith}
use Rattle.mc_flight.proofs.Tallying.{reads}
use Rattle.mc_flight.proofs.flight.Flight.sent_so_far.Goals as goal

pub load-requires : goal.load-requires
load-requires c = (c.requires.seat.counter, omega (arith, c.args.self.now.words), reads _ _ c.args.seat.now.seat.me c.args.seat.now.lives)
