use Rattle.std.proofs.Common.{◌≡◌, ℕ, ◌+◌, ◌∷◌, ◌∙◌, ap, subst, List, arith}
use Rattle.std.specs.List.{All, sum_by}
use Rattle.std.proofs.lemmas.List.Elements.{All-head, All-tail}
use Rattle.std.proofs.lemmas.List.Sums.{sum_by-cons}
use Rattle.mc_flight.specs.Seats.{IsSeatOf, part_count, sent_count, taken_count}
use Rattle.mc_flight.specs.declared.flight.Flight.{Flight}
use Rattle.mc_flight.specs.declared.flight.FlightSeat.{FlightSeat}
use Rattle.mc_flight.proofs.Tallying.{joins}
use Rattle.mc_flight.proofs.flight.Flight.join_all.Goals as goal

-- what was there before the next one was taken
here : (flight : Flight) (seats rest : List FlightSeat) (it : FlightSeat) → seats ≡ it ∷ rest → All (IsSeatOf flight) seats → All (IsSeatOf flight) (it ∷ rest)
here flight seats rest it is all = subst (λ (l : List FlightSeat). All (IsSeatOf flight) l) is all

sums : (f : FlightSeat → ℕ) (seats rest : List FlightSeat) (it : FlightSeat) (old new whole : ℕ) → seats ≡ it ∷ rest → new ≡ old + f it → old + sum_by f seats ≡ whole → new + sum_by f rest ≡ whole
sums f seats rest it old new whole is more so_far = (let a = ap (λ (l : List FlightSeat). sum_by f l) is ∙ sum_by-cons f it rest in omega arith)

pub join_seat-requires : goal.join_seat-requires
join_seat-requires c = (
  c.loop-other.invariant.counter,
  (All-head (IsSeatOf c.args.self.now) c.in-Some.other c.next.new.self.rest.items (here c.args.self.now _ _ _ c.in-Some.ensures.steps.0 c.loop-other.invariant.of)).counter,
  c.in-Some.other.no_slot_out,
  omega (arith, c.args.self.now.words),
  joins _ _ _ _ c.loop-other.invariant.lives c.in-Some.other.lives,
)

pub loop-other-preserved : goal.loop-other-preserved
loop-other-preserved c =
    let made = c.join_seat.ensures in
    let is = c.in-Some.ensures.steps.0 in
    record {
      counter = made.0 ∙ c.loop-other.invariant.counter;
      lives = ap (λ m. m.0.spent) made.2;
      of = All-tail (IsSeatOf c.args.self.now) c.in-Some.other c.next.new.self.rest.items (here c.args.self.now _ _ _ is c.loop-other.invariant.of);
      parts = sums part_count _ _ _ _ _ _ is (ap (λ m. m.0.parts) made.2) c.loop-other.invariant.parts;
      sent = sums sent_count _ _ _ _ _ _ is (ap (λ m. m.0.sent) made.2) c.loop-other.invariant.sent;
      taken = sums taken_count _ _ _ _ _ _ is (ap (λ m. m.0.taken) made.2) c.loop-other.invariant.taken;
    }
