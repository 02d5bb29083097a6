use Rattle.std.proofs.Common.{List, sym, subst}
use Rattle.mc_flight.specs.declared.flight.FlightSeat.{FlightSeat}
use Rattle.mc_flight.specs.Seats.{AreAllSeats}
use Rattle.mc_flight.proofs.Seating.{last_back}
use Rattle.mc_desk_tests.proofs.flights.one_seat_knows_all.Goals as goal

pub close-requires : goal.close-requires
close-requires g c =
    let are_all = λ (l : List FlightSeat). AreAllSeats c.in_ok-flight.flight l in
    subst are_all (sym c.in_ok-push.ensures.items) (last_back c.in_ok-flight.flight c.pop.new.self.items c.in-Some.seat c.count_alone.new.seat c.count_alone.ensures.same (subst are_all c.in-Some.ensures.items c.in_ok-flight.ensures.all))
