-- What a contract sees of the counter and of its seats.
use Rattle.std.specs.Prelude.{◌≡◌, ℕ, ◌+◌, ◌-◌, ◌<◌, ◌==◌, List, map, if◌then◌else◌, IsPermutation}
use Rattle.std.specs.List.{All, range_with_len}
use Rattle.mc_flight.specs.Tallies.{account}
use Rattle.mc_flight.specs.declared.limit.TheConstants.{SEAT_LIMIT}
use Rattle.mc_flight.specs.declared.flight.Flight.{Flight}
use Rattle.mc_flight.specs.declared.flight.FlightSeat.{FlightSeat}

-- how many seats the counter has
abbrev pub seat_count : Flight → ℕ
seat_count flight = flight.seats

-- the seat's number, from 0
abbrev pub number_of : FlightSeat → ℕ
number_of it = it.seat.me.0.number

-- how many signals were counted as sent with this seat
abbrev pub sent_count : FlightSeat → ℕ
sent_count it = it.seat.me.0.sent

-- how many signals were counted as taken with this seat
abbrev pub taken_count : FlightSeat → ℕ
taken_count it = it.seat.me.0.taken

-- how many of the 256 parts the seat has, all of which together know both totals
abbrev pub part_count : FlightSeat → ℕ
part_count it = it.seat.me.0.parts

-- how many parts the seat of a number has among n seats: each has one, and the last has all the others
abbrev pub parts_among : ℕ → ℕ → ℕ
parts_among n number = if number + 1 == n then 257 - n else 1

-- the seat is one of this counter's
pub record IsSeatOf (flight : Flight) (it : FlightSeat) : Type 0 where
  pub counter : it.seat.table_id ≡ flight.table.shared.table_id
  pub number : number_of it < seat_count flight
  pub parts : part_count it ≡ parts_among (seat_count flight) (number_of it)

-- they are all the seats of this counter, each once, in whatever order
pub record AreAllSeats (flight : Flight) (seats : List FlightSeat) : Type 0 where
  pub of : All (IsSeatOf flight) seats
  pub each_once : IsPermutation (map number_of seats) (range_with_len 0 (seat_count flight))

-- it is the same seat, whatever was counted with it in between
pub record IsSameSeat (old new : FlightSeat) : Type 0 where
  pub counter : new.seat.table_id ≡ old.seat.table_id
  pub number : number_of new ≡ number_of old
  pub parts : part_count new ≡ part_count old

-- nothing was counted with it yet
pub record IsUnused (it : FlightSeat) : Type 0 where
  pub sent : sent_count it ≡ 0
  pub taken : taken_count it ≡ 0

-- it is the first seat of a new counter, from which the others are made
pub record IsFirstSeat (flight : Flight) (it : FlightSeat) : Type 0 where
  pub counter : it.seat.table_id ≡ flight.table.shared.table_id
  pub account : it.seat.me.0 ≡ account 0 SEAT_LIMIT 0 0
