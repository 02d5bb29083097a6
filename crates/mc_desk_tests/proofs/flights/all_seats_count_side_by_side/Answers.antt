use Rattle.std.proofs.Common.{List, sym, subst}
use Rattle.mc_flight.specs.declared.flight.FlightSeat.{FlightSeat}
use Rattle.mc_flight.specs.Seats.{AreAllSeats}
use Rattle.mc_desk_tests.proofs.flights.all_seats_count_side_by_side.Goals as goal

pub count_all-requires-clause-seats : goal.count_all-requires-clause-seats
count_all-requires-clause-seats g c κs = subst (λ (l : List FlightSeat). AreAllSeats c.in_ok-flight.flight l) (sym c.as_mut_slice.ensures.value) c.in_ok-flight.ensures.all
