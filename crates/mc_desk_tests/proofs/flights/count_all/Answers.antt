use Rattle.std.proofs.Common.{arith}
use Rattle.mc_flight.proofs.Seating.{still_all}
use Rattle.mc_desk_tests.proofs.flights.count_all.Goals as goal

pub returns : goal.returns
returns g c = still_all c.args.flight.now c.args.seats.now c.for_each_mut.new.s c.for_each_mut.auto.s (λ k d low. (let at = (c.for_each_mut.ensures k d low).1 in grind arith)) c.requires.seats
