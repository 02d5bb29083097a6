-- Seats of a counter, in whatever order.
use Rattle.std.proofs.Common.{◌≡◌, ℕ, IsPermutation, List, [], ◌∷◌, length, map, sym, ◌∙◌, ap}
use Rattle.std.specs.List.{All, AllByRecursion, range_with_len}
use Rattle.std.proofs.lemmas.List.{length-map}
use Rattle.std.proofs.lemmas.List.Elements.{recursion_from_All}
use Rattle.std.proofs.lemmas.List.FromFn.{length-range_with_len}
use Rattle.std.proofs.lemmas.List.Sorted.{All-permutation, IsPermutation-map, IsPermutation-sym, IsPermutation-trans}
use Rattle.mc_flight.specs.Seats.{AreAllSeats, IsSeatOf, IsUnused, number_of, seat_count}
use Rattle.mc_flight.specs.declared.flight.Flight.{Flight}
use Rattle.mc_flight.specs.declared.flight.FlightSeat.{FlightSeat}
use Rattle.mc_phase.specs.Prepared.{IsNewSeat}

new_by : (flight : Flight) (seats : List FlightSeat) → AllByRecursion (IsSeatOf flight) seats → AllByRecursion IsUnused seats → AllByRecursion (IsNewSeat flight) seats
new_by flight [] of none = tt
new_by flight (seat ∷ seats) of none = (record { of = of.0; unused = none.0 }, new_by flight seats of.1 none.1)

pub new_seats : (flight : Flight) (seats : List FlightSeat) → AreAllSeats flight seats → All IsUnused seats → AllByRecursion (IsNewSeat flight) seats
new_seats flight seats are none = new_by flight seats (recursion_from_All (IsSeatOf flight) seats are.of) (recursion_from_All IsUnused seats none)

pub seats_long : (seats : List FlightSeat) (n : ℕ) → map number_of seats ≡ range_with_len 0 n → length seats ≡ n
seats_long seats n are = sym (length-map seats number_of) ∙ (ap (λ (l : List ℕ). length l) are ∙ length-range_with_len 0 n)

pub seats_moved : (flight : Flight) (old new : List FlightSeat) → IsPermutation old new → AreAllSeats flight old → AreAllSeats flight new
seats_moved flight old new moved are = record {
  of = All-permutation (IsSeatOf flight) old new moved are.of;
  each_once = IsPermutation-trans (map number_of new) (map number_of old) (range_with_len 0 (seat_count flight)) (IsPermutation-sym (map number_of old) (map number_of new) (IsPermutation-map number_of old new moved)) are.each_once;
}

pub unused_moved : (old new : List FlightSeat) → IsPermutation old new → All IsUnused old → AllByRecursion IsUnused new
unused_moved old new moved none = recursion_from_All IsUnused new (All-permutation IsUnused old new moved none)
