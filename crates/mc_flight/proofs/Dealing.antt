-- The seats of a new counter, one after another.
use Rattle.std.proofs.Common.{◌≡◌, ℕ, zero, suc, ◌+◌, ◌-◌, ◌<◌, eq-eqb, ne_eqb, if◌then◌else◌, List, [], ◌∷◌, ◌++◌, map, sym, refl, ap, ◌∙◌, subst, arith}
use Rattle.std.specs.List.{All, range_with_len}
use Rattle.std.proofs.lemmas.List.{map_push}
use Rattle.std.proofs.lemmas.List.Elements.{All-push}
use Rattle.mc_flight.specs.declared.flight.Flight.{Flight}
use Rattle.mc_flight.specs.declared.flight.FlightSeat.{FlightSeat}
use Rattle.mc_flight.specs.Tallies.{account}
use Rattle.mc_flight.specs.Seats.{IsSeatOf, IsUnused, number_of, parts_among}

-- the first so many seats of the counter
pub record Dealt (flight : Flight) (count : ℕ) (seats : List FlightSeat) : Type 0 where
  pub of : All (IsSeatOf flight) seats
  pub numbers : map number_of seats ≡ range_with_len 0 count
  pub unused : All IsUnused seats

range_more : (first count : ℕ) → range_with_len first (count + 1) ≡ range_with_len first count ++ (first + count) ∷ []
range_more first count = rw (add_one count) (go first count)
  where
    add_one : (n : ℕ) → n + 1 ≡ suc n
    add_one n = omega arith

    go : (first count : ℕ) → range_with_len first (suc count) ≡ range_with_len first count ++ (first + count) ∷ []
    go first zero = ap (λ (n : ℕ). n ∷ []) (omega arith)
    go first (suc count) = ap (λ (l : List ℕ). first ∷ l) (go (first + 1) count ∙ ap (λ (n : ℕ). range_with_len (first + 1) count ++ n ∷ []) (omega arith))

pub one_part : (n number : ℕ) → number + 1 < n → 1 ≡ parts_among n number
one_part n number low = sym (ap (λ b. if b then 257 - n else 1) (ne_eqb (number + 1) n (λ same. absurd (omega arith))))

pub last_parts : (n number : ℕ) → number + 1 ≡ n → 256 - number ≡ parts_among n number
last_parts n number last = (let e : 256 - number ≡ 257 - n = omega arith in e ∙ sym (ap (λ b. if b then 257 - n else 1) (eq-eqb (number + 1) n last)))

pub dealt_none : (flight : Flight) → Dealt flight 0 []
dealt_none flight = record { of = λ k d low. absurd (omega arith); numbers = refl; unused = λ k d low. absurd (omega arith) }

-- one seat more
pub dealt_more : (flight : Flight) (count parts : ℕ) (seats more : List FlightSeat) (it : FlightSeat) → more ≡ seats ++ it ∷ []
    → it.seat.table_id ≡ flight.table.shared.table_id → it.seat.me.0 ≡ account count parts 0 0 → count < flight.seats → parts ≡ parts_among flight.seats count → Dealt flight count seats → Dealt flight (count + 1) more
dealt_more flight count parts seats more it is counter account low fair dealt =
    let number : count ≡ it.seat.me.0.number = sym (ap (λ a. a.number) account) in
    subst (λ (l : List FlightSeat). Dealt flight (count + 1) l) (sym is) (record {
      of = All-push (IsSeatOf flight) seats it dealt.of (record {
        counter = counter;
        number = subst (λ (n : ℕ). n < flight.seats) number low;
        parts = ap (λ a. a.parts) account ∙ (fair ∙ ap (λ (n : ℕ). parts_among flight.seats n) number);
      });
      numbers = map_push number_of seats it ∙ ((λ i. dealt.numbers i ++ sym number i ∷ []) ∙ sym (range_more 0 count ∙ ap (λ (n : ℕ). range_with_len 0 count ++ n ∷ []) (omega arith)));
      unused = All-push IsUnused seats it dealt.unused (record { sent = ap (λ a. a.sent) account; taken = ap (λ a. a.taken) account });
    })
