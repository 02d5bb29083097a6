-- An end that doesn't close, and to which no close and no closeack comes: it sends none, and stays open where it is.
use Rattle.std.proofs.Common.{◌≡◌, ◌≢◌, ◌+◌, ◌++◌, ℕ, Bool, true, Option, Some, None, List, [], ◌∷◌, subst, arith}
use Rattle.mc_signal.specs.declared.Descriptor.{Descriptor}
use Rattle.mc_signal.specs.declared.Sender.{Sender}
use Rattle.mc_signal.specs.declared.Signal.{Signal}
use Rattle.mc_slot.specs.EndTurn.{end_turn, owes, cause_of, is_push}
use Rattle.mc_slot.specs.Moves.{answer_signals, slot_send, slot_send_all, slot_take}
use Rattle.mc_slot.specs.Outlook.{ack_of, acks, close_of, closes}
use Rattle.mc_slot.specs.declared.Goal.{Goal}
use Rattle.mc_slot.specs.declared.Goal.TheVariants.{Close as ToClose}
use Rattle.mc_slot.specs.declared.Slot.{Slot}
use Rattle.mc_slot.specs.declared.State.TheVariants.{Closed}
use Rattle.mc_box.proofs.Options.{then_some}

-- the closes and closeacks among signals
abbrev pub endings : List Signal → ℕ
endings signals = closes signals + acks signals

-- those of two lists add up
pub endings-append : (first second : List Signal) → endings (first ++ second) ≡ endings first + endings second
endings-append [] second = omega arith
endings-append (signal ∷ signals) second = omega (arith, endings-append signals second)

-- an end that holds or opens sends none of its own
pub due_ends_none : (goal : Goal) (slot : Slot) (pushed : Bool) (own : Descriptor) (me : Sender) → goal ≢ ToClose → endings (end_turn goal slot pushed own me) ≡ 0
due_ends_none goal slot pushed own me stays = grind (arith)

-- what is sent doesn't close a slot at once
sent_open : (a after : Slot) (signal : Signal) → slot_send a signal ≡ Some after → after.state ≢ Closed
sent_open a after signal goes is = grind (arith)

-- nor do several sendings
pub all_open : (signals : List Signal) (a after : Slot) → slot_send_all a signals ≡ Some after → a.state ≢ Closed → after.state ≢ Closed
all_open [] a after goes begun = let same : a ≡ after = cc in subst (λ (x : Slot). x.state ≢ Closed) same begun
all_open (signal ∷ signals) a after goes begun =
    let one = then_some (λ (next : Slot). slot_send_all next signals) (slot_send a signal) after goes in
    all_open signals one.0 after one.2 (sent_open a one.0 signal one.1)

-- a retry opens the slot that owes it
pub retry_opens : (goal : Goal) (slot after : Slot) (own : Descriptor) (me : Sender) → owes goal slot ≡ true → slot_send_all slot (end_turn goal slot true own me) ≡ Some after → after.state ≢ Closed
retry_opens goal slot after own me owed goes is = grind (arith)

-- what is no close and no closeack isn't answered, and closes no slot
pub took_open : (a after : Slot) (signal : Signal) (answer : Option Signal) → slot_take a signal ≡ Some record { answer = answer; after = after } → close_of signal + ack_of signal ≡ 0
    → (answer ≡ None) × (a.state ≢ Closed → after.state ≢ Closed)
took_open a after signal answer goes none = (grind (arith), λ begun is. grind (arith))

-- ---- an end acts

-- what an end sends, and what it is and has coming to it after that, where no close and no closeack was coming
pub record EndsNone (goal : Goal) (slot : Slot) (coming sends : List Signal) (last : Slot) (left : List Signal) : Type 0 where
  pub sends_none : goal ≢ ToClose → endings coming ≡ 0 → endings sends ≡ 0
  pub leaves_none : endings coming ≡ 0 → endings left ≡ 0
  pub stays : endings coming ≡ 0 → slot.state ≢ Closed → last.state ≢ Closed

-- of what is none, each part is none
parts_none : (close ack closes acks : ℕ) → (close + closes) + (ack + acks) ≡ 0 → (close + ack ≡ 0) × (closes + acks ≡ 0)
parts_none close ack closes acks none = (omega arith, omega arith)

-- so the first signal is none, and none follows it
pub front_none : (signal : Signal) (rest : List Signal) → endings (signal ∷ rest) ≡ 0 → (close_of signal + ack_of signal ≡ 0) × (endings rest ≡ 0)
front_none signal rest none = parts_none (close_of signal) (ack_of signal) (closes rest) (acks rest) none

-- an end that takes its next signal
pub take_ends : (goal : Goal) (slot middle last : Slot) (own : Descriptor) (me : Sender) (signal : Signal) (answer : Option Signal) (rest : List Signal)
    → slot_take slot signal ≡ Some record { answer = answer; after = middle } → slot_send_all middle (end_turn goal middle (is_push (cause_of signal middle.state)) own me) ≡ Some last
    → EndsNone goal slot (signal ∷ rest) (answer_signals answer ++ end_turn goal middle (is_push (cause_of signal middle.state)) own me) last rest
take_ends goal slot middle last own me signal answer rest goes turns = record {
  sends_none = λ holds none.
      let silent = (took_open slot middle signal answer goes (front_none signal rest none).0).0 in
      rw silent (due_ends_none goal middle (is_push (cause_of signal middle.state)) own me holds);
  leaves_none = λ none. (front_none signal rest none).1;
  stays = λ none begun.
      all_open (end_turn goal middle (is_push (cause_of signal middle.state)) own me) middle last turns ((took_open slot middle signal answer goes (front_none signal rest none).0).1 begun);
}
