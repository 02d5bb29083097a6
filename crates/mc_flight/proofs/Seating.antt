-- For callers: seats that count stay seats of their counter.
use Rattle.std.proofs.Common.{◌≡◌, ℕ, zero, suc, ◌<◌, List, [], ◌∷◌, ◌++◌, length, get_or, map, sym, refl, ap, ◌∙◌, subst, arith}
use Rattle.std.specs.List.{All, range_with_len}
use Rattle.std.specs.Prelude.{IsPermutation}
use Rattle.std.proofs.lemmas.List.Sorted.{IsPermutation-refl}
use Rattle.mc_flight.specs.declared.flight.Flight.{Flight}
use Rattle.mc_flight.specs.declared.flight.FlightSeat.{FlightSeat}
use Rattle.mc_flight.specs.Seats.{IsSeatOf, IsSameSeat, AreAllSeats, number_of, seat_count, parts_among}

pub still_of : (flight : Flight) (old new : FlightSeat) → IsSameSeat old new → IsSeatOf flight old → IsSeatOf flight new
still_of flight old new same of = record {
  counter = same.counter ∙ of.counter;
  number = subst (λ (n : ℕ). n < seat_count flight) (sym same.number) of.number;
  parts = same.parts ∙ (of.parts ∙ ap (λ (n : ℕ). parts_among flight.seats n) (sym same.number));
}

-- the same seat, over two counts
pub still_same : (first old new : FlightSeat) → IsSameSeat first old → IsSameSeat old new → IsSameSeat first new
still_same first old new so_far same = record {
  counter = same.counter ∙ so_far.counter;
  number = same.number ∙ so_far.number;
  parts = same.parts ∙ so_far.parts;
}

-- all seats, where they stand in the order of their numbers
pub all_in_order : (flight : Flight) (seats : List FlightSeat) → All (IsSeatOf flight) seats → map number_of seats ≡ range_with_len 0 (seat_count flight) → AreAllSeats flight seats
all_in_order flight seats of numbers = record {
  of = of;
  each_once = subst (λ (l : List ℕ). IsPermutation (map number_of seats) l) numbers (IsPermutation-refl (map number_of seats));
}

same_numbers : (old new : List FlightSeat) → length new ≡ length old → ((k : ℕ) (d : FlightSeat) → k < length old → IsSameSeat (get_or old k d) (get_or new k d)) → map number_of new ≡ map number_of old
same_numbers [] [] same_length same = refl
same_numbers [] (y ∷ ys) same_length same = absurd (omega arith)
same_numbers (x ∷ xs) [] same_length same = absurd (omega arith)
same_numbers (x ∷ xs) (y ∷ ys) same_length same =
    let first = (same 0 x (omega arith)).number in
    let rest = same_numbers xs ys (omega arith) (λ k d low. same (suc k) d (omega arith)) in
    λ i. first i ∷ rest i

-- all seats stay so, whatever was counted with each
pub still_all : (flight : Flight) (old new : List FlightSeat) → length new ≡ length old → ((k : ℕ) (d : FlightSeat) → k < length old → IsSameSeat (get_or old k d) (get_or new k d)) → AreAllSeats flight old → AreAllSeats flight new
still_all flight old new same_length same all = record {
  of = λ k d low. (let before : k < length old = omega arith in still_of flight (get_or old k d) (get_or new k d) (same k d before) (all.of k d before));
  each_once = subst (λ (l : List ℕ). IsPermutation l (range_with_len 0 (seat_count flight))) (sym (same_numbers old new same_length same)) all.each_once;
}

-- the last one is taken out, counts, and is put back
pub last_back : (flight : Flight) (others : List FlightSeat) (old new : FlightSeat) → IsSameSeat old new → AreAllSeats flight (others ++ old ∷ []) → AreAllSeats flight (others ++ new ∷ [])
last_back flight others old new same all = still_all flight (others ++ old ∷ []) (others ++ new ∷ []) (same_length others) (each others) all
  where
    same_length : (xs : List FlightSeat) → length (xs ++ new ∷ []) ≡ length (xs ++ old ∷ [])
    same_length [] = refl
    same_length (x ∷ xs) = ap suc (same_length xs)

    each : (xs : List FlightSeat) (k : ℕ) (d : FlightSeat) → k < length (xs ++ old ∷ []) → IsSameSeat (get_or (xs ++ old ∷ []) k d) (get_or (xs ++ new ∷ []) k d)
    each [] zero d low = same
    each [] (suc k) d low = absurd (omega arith)
    each (x ∷ xs) zero d low = record { counter = refl; number = refl; parts = refl }
    each (x ∷ xs) (suc k) d low = each xs k d (omega arith)
