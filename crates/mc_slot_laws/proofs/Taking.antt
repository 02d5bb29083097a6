-- A taking keeps a tunnel sound.
use Rattle.std.proofs.Common.{◌≡◌, ◌⊎◌, inl, inr, ◌+◌, ◌≤◌, Option, Some, None, List, [], ◌∷◌, ◌++◌, refl, subst, arith}
use Rattle.mc_signal.specs.declared.Signal.{Signal}
use Rattle.mc_signal.specs.declared.Signal.TheVariants.{Open, Oack, Close, Closeack, Describe, Select}
use Rattle.mc_slot.specs.Moves.{answer_signals, clear, slot_take}
use Rattle.mc_slot.specs.Outlook.{ack_of, acks, close_of, outlook, waits}
use Rattle.mc_slot.specs.Tunnel.{Agree, Meet, TunnelSound}
use Rattle.mc_slot.specs.declared.Slot.{Slot}
use Rattle.mc_slot.specs.declared.State.TheVariants.{Closed, Closing}
use Rattle.std.proofs.lemmas.List.{append-nil}
use Rattle.mc_slot_laws.proofs.Steps.{took_medium, took_side, took_kept}
use Rattle.mc_slot_laws.proofs.Walks.{outlook-append, closes-append, acks-append, out_closing}

-- the two outlooks
pub record Met (o p : Option Slot) : Type 0 where
  pub first : Slot
  pub second : Slot
  pub first_is : o ≡ Some first
  pub second_is : p ≡ Some second
  pub agree : Agree first second

-- two outlooks that meet are there
pub met : (o p : Option Slot) → Meet o p → Met o p
met None p both = absurd both
met (Some x) None both = absurd both
met (Some x) (Some y) both = record { first = x; second = y; first_is = refl; second_is = refl; agree = both }

-- outlooks that are there meet where they agree
pub meet_of : (o p : Option Slot) (x y : Slot) → o ≡ Some x → p ≡ Some y → Agree x y → Meet o p
meet_of o p x y ox py agree = rw (ox, py) agree

-- which takings are answered, and how the counts move
record Unanswered (a : Slot) (signal : Signal) (answer : Option Signal) (after : Slot) : Type 0 where
  none : answer ≡ None
  no_close : close_of signal ≡ 0
  count : ack_of signal + waits after.state ≡ waits a.state

-- a close is answered by a closeack
record Answered (a : Slot) (signal : Signal) (answer : Option Signal) (after : Slot) : Type 0 where
  some : answer ≡ Some Closeack
  one_close : close_of signal ≡ 1
  no_ack : ack_of signal ≡ 0
  count : waits after.state ≡ waits a.state

-- each taking is one or the other
answer_in : (a : Slot) (signal : Signal) (answer : Option Signal) (after : Slot) → slot_take a signal ≡ Some record { answer = answer; after = after }
    → (Unanswered a signal answer after) ⊎ (Answered a signal answer after)
answer_in a (Open medium d) answer after goes = inl (record { none = grind (arith); no_close = refl; count = grind (arith) })
answer_in a (Oack d) answer after goes = inl (record { none = grind (arith); no_close = refl; count = grind (arith) })
answer_in a Close answer after goes = inr (record { some = grind (arith); one_close = refl; no_ack = refl; count = grind (arith) })
answer_in a Closeack answer after goes = inl (record { none = grind (arith); no_close = refl; count = grind (arith) })
answer_in a (Describe d) answer after goes = inl (record { none = grind (arith); no_close = refl; count = grind (arith) })
answer_in a (Select s) answer after goes = inl (record { none = grind (arith); no_close = refl; count = grind (arith) })

-- only a closing slot waits
pub waiting : (a : Slot) → 1 ≤ waits a.state → a.state ≡ Closing
waiting a h = grind (arith)

-- a slot waits for one closeack at most
pub at_most_one : (a : Slot) → waits a.state ≤ 1
at_most_one a = grind (arith)

-- what agrees with a closing slot agrees with it closed
agree_closed : (x b : Slot) → Agree x b → b.state ≡ Closing → Agree x (clear b Closed)
agree_closed x b agree is = grind (arith)

-- a taking without an answer keeps a tunnel sound
take_silent : (a : Slot) (signal : Signal) (to_a : List Signal) (b : Slot) (to_b : List Signal) (answer : Option Signal) (after : Slot)
    → TunnelSound a (signal ∷ to_a) b to_b → slot_take a signal ≡ Some record { answer = answer; after = after }
    → Unanswered a signal answer after → TunnelSound after to_a b to_b
take_silent a signal to_a b to_b answer after s goes counted = record {
  medium = cc (took_medium a signal _ goes, s.medium);
  sides = cc (took_side a signal _ goes, s.sides);
  meet = rw goes at s.meet;
  first_waits = omega (arith, s.first_waits, counted.count);
  second_waits = omega (arith, s.second_waits, counted.no_close);
  first_kept = took_kept a signal _ goes s.first_kept;
  second_kept = s.second_kept;
}

-- a taking that is answered keeps a tunnel sound
take_answering : (a : Slot) (signal : Signal) (to_a : List Signal) (b : Slot) (to_b : List Signal) (answer : Option Signal) (after : Slot)
    → TunnelSound a (signal ∷ to_a) b to_b → slot_take a signal ≡ Some record { answer = answer; after = after }
    → Answered a signal answer after → TunnelSound after to_a b (to_b ++ Closeack ∷ [])
take_answering a signal to_a b to_b answer after s goes counted =
    let meet : Meet (outlook after to_a) (outlook b to_b) = rw goes at s.meet in
    let both = met _ _ meet in
    let bounded = at_most_one b in
    let waiting_b : b.state ≡ Closing = waiting b (omega (arith, s.second_waits, counted.one_close)) in
    let no_acks : acks to_b ≡ 0 = omega (arith, s.second_waits, counted.one_close) in
    let stays : outlook b to_b ≡ Some b = out_closing to_b b b both.second both.second_is waiting_b refl no_acks in
    let same : both.second ≡ b = cc (stays, both.second_is) in
    let agree : Agree both.first b = subst (λ (y : Slot). Agree both.first y) same both.agree in
    let last : outlook b (Closeack ∷ []) ≡ Some (clear b Closed) = grind (arith) in
    let longer : outlook b (to_b ++ Closeack ∷ []) ≡ Some (clear b Closed) = rw (outlook-append b to_b (Closeack ∷ []), stays) last in
    record {
      medium = cc (took_medium a signal _ goes, s.medium);
      sides = cc (took_side a signal _ goes, s.sides);
      meet = meet_of _ _ both.first (clear b Closed) both.first_is longer (agree_closed both.first b agree waiting_b);
      first_waits = omega (arith, s.first_waits, counted.count, counted.no_ack, closes-append to_b (Closeack ∷ []));
      second_waits = omega (arith, s.second_waits, counted.one_close, acks-append to_b (Closeack ∷ []));
      first_kept = took_kept a signal _ goes s.first_kept;
      second_kept = s.second_kept;
    }

-- each taking keeps a tunnel sound
pub take_keeps : (a : Slot) (signal : Signal) (to_a : List Signal) (b : Slot) (to_b : List Signal) (answer : Option Signal) (after : Slot)
    → TunnelSound a (signal ∷ to_a) b to_b → slot_take a signal ≡ Some record { answer = answer; after = after }
    → TunnelSound after to_a b (to_b ++ answer_signals answer)
take_keeps a signal to_a b to_b answer after s goes = elim (answer_in a signal answer after goes) [
  | inl counted ↦ rw (counted.none, append-nil to_b) (take_silent a signal to_a b to_b answer after s goes counted)
  | inr counted ↦ rw counted.some (take_answering a signal to_a b to_b answer after s goes counted)
]
