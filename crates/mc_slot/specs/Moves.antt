-- What a slot may send and what it takes, and what it is and keeps after that, as functions.
use Rattle.std.specs.Prelude.{Option, Some, None, Bool, true, false, if◌then◌else◌, List, [], ◌∷◌}
use Rattle.std.specs.Option.{option_and_then}
use Rattle.mc_signal.specs.declared.Descriptor.{Descriptor}
use Rattle.mc_signal.specs.declared.Medium.{Medium}
use Rattle.mc_signal.specs.declared.Medium.TheVariants.{Audio, Video}
use Rattle.mc_signal.specs.declared.Signal.{Signal}
use Rattle.mc_signal.specs.declared.Signal.TheVariants.{Open, Oack, Close, Closeack, Describe, Select}
use Rattle.mc_slot.specs.declared.Slot.{Slot}
use Rattle.mc_slot.specs.declared.State.{State}
use Rattle.mc_slot.specs.declared.State.TheVariants.{Closed, Opening, Opened, Flowing, Closing}

-- a closed slot, which keeps nothing
abbrev pub closed_slot : Medium → Bool → Slot
closed_slot medium initiator =
    record {
      state = Closed;
      medium = medium;
      initiator = initiator;
      sent = None;
      got = None;
      sel_out = None;
      sel_in =
          None;
    }

-- a slot that enters a state and keeps nothing
abbrev pub clear : Slot → State → Slot
clear slot state = record slot { state = state; sent = None; got = None; sel_out = None; sel_in = None }

-- the slot in another state, keeping what it kept
abbrev pub with_state : Slot → State → Slot
with_state slot state = record slot { state = state }

-- opened by the other side, and keeping its descriptor
abbrev pub enter_opened : Slot → Descriptor → Slot
enter_opened slot d = record (clear slot Opened) { got = Some d }

abbrev pub is_same_medium : Medium → Medium → Bool
is_same_medium Audio Audio = true
is_same_medium Video Video = true
is_same_medium m n = false

-- an open is of the slot's medium
abbrev pub fits_medium : Slot → Signal → Bool
fits_medium slot (Open medium d) = is_same_medium medium slot.medium
fits_medium slot signal = true

-- what a taking gives: the answer, where one is due, and the slot after it
pub record Took : Type 0 where
  pub answer : Option Signal
  pub after : Slot

-- takes the signal, owes no answer
abbrev pub take_silently : Slot → Option Took
take_silently after = Some record { answer = None; after = after }

-- takes the signal and owes a closeack
abbrev pub take_with_ack : Slot → Option Took
take_with_ack after = Some record { answer = Some Closeack; after = after }

-- the slot after sending in this state, if the signal may be sent
abbrev pub slot_send_in : State → Slot → Signal → Option Slot
slot_send_in Closed slot (Open medium d) = Some (record (clear slot Opening) { sent = Some d })
slot_send_in Opening slot Close = Some (with_state slot Closing)
slot_send_in Opened slot (Oack d) = Some (record (with_state slot Flowing) { sent = Some d })
slot_send_in Opened slot Close = Some (with_state slot Closing)
slot_send_in Flowing slot (Describe d) = Some (record slot { sent = Some d })
slot_send_in Flowing slot (Select s) = Some (record slot { sel_out = Some s })
slot_send_in Flowing slot Close = Some (with_state slot Closing)
slot_send_in state slot signal = None

-- what a taking in this state gives, if the signal is lawful
abbrev pub slot_take_in : State → Slot → Signal → Option Took
slot_take_in Closed slot (Open medium d) = take_silently (enter_opened slot d)
slot_take_in Opening slot (Open medium d) = take_silently (if slot.initiator then slot else enter_opened slot d)
slot_take_in Opening slot (Oack d) = take_silently (record (with_state slot Flowing) { got = Some d })
slot_take_in Opening slot Close = take_with_ack (clear slot Closed)
slot_take_in Opened slot Close = take_with_ack (clear slot Closed)
slot_take_in Flowing slot (Describe d) = take_silently (record slot { got = Some d })
slot_take_in Flowing slot (Select s) = take_silently (record slot { sel_in = Some s })
slot_take_in Flowing slot Close = take_with_ack (clear slot Closed)
slot_take_in Closing slot (Open medium d) = take_silently slot
slot_take_in Closing slot (Oack d) = take_silently slot
slot_take_in Closing slot (Describe d) = take_silently slot
slot_take_in Closing slot (Select s) = take_silently slot
slot_take_in Closing slot Close = take_with_ack slot
slot_take_in Closing slot Closeack = take_silently (clear slot Closed)
slot_take_in state slot signal = None

-- the slot after sending, if the signal may be sent
abbrev pub slot_send : Slot → Signal → Option Slot
slot_send slot signal = if fits_medium slot signal then slot_send_in slot.state slot signal else None

-- what a taking gives, if the signal is lawful
abbrev pub slot_take : Slot → Signal → Option Took
slot_take slot signal = if fits_medium slot signal then slot_take_in slot.state slot signal else None

-- whether the signal is an open of the slot's medium
abbrev pub is_open_for : Slot → Signal → Bool
is_open_for slot (Open medium d) = is_same_medium medium slot.medium
is_open_for slot signal = false

-- opened or flowing
abbrev pub is_live : State → Bool
is_live Opened = true
is_live Flowing = true
is_live state = false

-- the slot after sending signals one after another, if each of them may be sent
abbrev pub slot_send_all : Slot → List Signal → Option Slot
slot_send_all slot [] = Some slot
slot_send_all slot (signal ∷ signals) = option_and_then (λ next. slot_send_all next signals) (slot_send slot signal)

-- the answer of a taking, as a list
abbrev pub answer_signals : Option Signal → List Signal
answer_signals None = []
answer_signals (Some signal) = signal ∷ []
