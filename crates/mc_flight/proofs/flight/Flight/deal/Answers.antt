use Rattle.std.proofs.Common.{◌≡◌, ℕ, ◌+◌, ◌-◌, ◌∙◌, ap, subst, arith}
use Rattle.mc_flight.specs.Tallies.{kept_part, other_parts, account}
use Rattle.mc_flight.specs.declared.flight.FlightSeat.{FlightSeat}
use Rattle.mc_flight.proofs.Dealing.{Dealt, dealt_more, one_part, last_parts}
use Rattle.mc_flight.proofs.Seating.{all_in_order}
use Rattle.mc_flight.proofs.Tallying.{splits_as}
use Rattle.mc_flight.proofs.flight.Flight.deal.Goals as goal

pub split_seat-next-requires : goal.split_seat-next-requires
split_seat-next-requires c =
    (c.loop.invariant.counter, omega (arith, c.args.self.now.words), splits_as _ c.loop.last.seat.me.0 c.loop.counter (256 - c.loop.counter) c.loop.invariant.account (omega (arith, c.loop-test.true, c.args.self.now.few_seats)))

pub loop-preserved : goal.loop-preserved
loop-preserved c =
    let made = c.split_seat-next.ensures in
    let count : ℕ = c.loop.counter in
    record {
      counter = ap (λ (it : FlightSeat). it.seat.table_id) c.replace.ensures.after ∙ (made.3 ∙ c.loop.invariant.counter);
      account = ap (λ (it : FlightSeat). it.seat.me.0) c.replace.ensures.after ∙ (ap (λ m. m.0) made.4 ∙ (ap other_parts c.loop.invariant.account ∙ ap (λ (n : ℕ). account (count + 1) n 0 0) (omega arith)));
      dealt = dealt_more c.args.self.now count 1 c.loop.list.items c.push.new.self.items c.replace.result c.in_ok-push.ensures.items
          (ap (λ (it : FlightSeat). it.seat.table_id) c.replace.ensures.value ∙ (made.0 ∙ c.loop.invariant.counter))
          (ap (λ (it : FlightSeat). it.seat.me.0) c.replace.ensures.value ∙ (ap (λ m. m.0) made.2 ∙ ap kept_part c.loop.invariant.account))
          (omega (arith, c.loop-test.true)) (one_part c.args.self.now.seats count (omega (arith, c.loop-test.true))) c.loop.invariant.dealt;
    }

all_dealt : (c : goal.In_ok-push-2) → Dealt c.args.self.now c.args.self.now.seats c.push-2.new.self.items
all_dealt c =
    let count : ℕ = c.loop.counter in
    let last : count + 1 ≡ c.args.self.now.seats = omega (arith, c.loop-test.false, c.loop.auto.counter-end, c.args.self.now.some_seats) in
    subst (λ (n : ℕ). Dealt c.args.self.now n c.push-2.new.self.items) last
    (dealt_more c.args.self.now count (256 - count) c.loop.list.items c.push-2.new.self.items c.loop.last c.in_ok-push-2.ensures.items c.loop.invariant.counter c.loop.invariant.account (omega (arith, last)) (last_parts c.args.self.now.seats count last) c.loop.invariant.dealt)

pub returns-clause-all : goal.returns-clause-all
returns-clause-all c = all_in_order c.args.self.now c.push-2.new.self.items (all_dealt c).of (all_dealt c).numbers

pub returns-clause-numbers : goal.returns-clause-numbers
returns-clause-numbers c = (all_dealt c).numbers

pub returns-clause-unused : goal.returns-clause-unused
returns-clause-unused c = (all_dealt c).unused
