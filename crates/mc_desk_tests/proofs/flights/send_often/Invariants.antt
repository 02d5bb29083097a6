use Rattle.std.proofs.Common.{◌≡◌, ◌*◌}
use Rattle.mc_flight.specs.Seats.{IsSameSeat, sent_count, taken_count}
use Rattle.mc_desk_tests.proofs.flights.send_often.Given as goal

abbrev pub invariant-loop : goal.invariant-loop
invariant-loop l = record {
  same : IsSameSeat l.fn.seat l.seat;
  sent : sent_count l.seat ≡ 3 * l.counter;
  taken : taken_count l.seat ≡ 0;
}
