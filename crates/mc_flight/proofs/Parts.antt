-- The parts of all seats.
use Rattle.std.proofs.Common.{◌≡◌, ℕ, zero, suc, ◌+◌, ◌-◌, ◌<◌, ◌≤◌, eq-eqb, ne_eqb, if◌then◌else◌, List, [], ◌∷◌, map, sym, refl, ap, ◌∙◌, arith}
use Rattle.std.specs.List.{All, range_with_len, sum_by}
use Rattle.std.proofs.lemmas.List.Sums.{sum_by-cons}
use Rattle.std.proofs.lemmas.List.Sorted.{sum_by-IsPermutation}
use Rattle.std.proofs.lemmas.List.Elements.{All-head, All-tail}
use Rattle.mc_flight.specs.declared.flight.Flight.{Flight}
use Rattle.mc_flight.specs.declared.flight.FlightSeat.{FlightSeat}
use Rattle.mc_flight.specs.declared.limit.TheConstants.{SEAT_LIMIT}
use Rattle.mc_flight.specs.Seats.{IsSeatOf, AreAllSeats, number_of, part_count, parts_among}

by_numbers : (flight : Flight) (seats : List FlightSeat) → All (IsSeatOf flight) seats → sum_by part_count seats ≡ sum_by (parts_among flight.seats) (map number_of seats)
by_numbers flight [] all = refl
by_numbers flight (x ∷ xs) all =
    let rest = by_numbers flight xs (All-tail (IsSeatOf flight) x xs all) in
    let mine = (All-head (IsSeatOf flight) x xs all).parts in
    sum_by-cons part_count x xs ∙ ((λ i. mine i + rest i) ∙ sym (sum_by-cons (parts_among flight.seats) (number_of x) (map number_of xs)))

in_range : (n first more : ℕ) → first + suc more ≡ n → n ≤ 256 → sum_by (parts_among n) (range_with_len first (suc more)) ≡ 257 - n + more
in_range n first zero e few = (rw (eq-eqb (first + 1) n (omega arith)) (omega arith))
in_range n first (suc more) e few =
    let rest = in_range n (first + 1) more (omega arith) few in
    let mine : parts_among n first ≡ 1 = ap (λ b. if b then 257 - n else 1) (ne_eqb (first + 1) n (λ same. absurd (omega arith))) in
    let both = sum_by-cons (parts_among n) first (range_with_len (first + 1) (suc more)) in
    omega arith

pub all_parts : (flight : Flight) (seats : List FlightSeat) → 0 < flight.seats → flight.seats ≤ SEAT_LIMIT → AreAllSeats flight seats → sum_by part_count seats ≡ SEAT_LIMIT
all_parts flight seats some few all = by_numbers flight seats all.of ∙ (sym (sum_by-IsPermutation (parts_among flight.seats) _ _ all.each_once) ∙ go flight.seats refl)
  where
    go : (n : ℕ) → flight.seats ≡ n → sum_by (parts_among flight.seats) (range_with_len 0 n) ≡ SEAT_LIMIT
    go zero e = absurd (omega arith)
    go (suc more) e = (let s = in_range flight.seats 0 more (omega arith) few in omega arith)
