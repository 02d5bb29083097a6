-- What one taking does to a slot.
use Rattle.std.proofs.Common.{◌≡◌, Option, Some, None, arith}
use Rattle.mc_signal.specs.declared.Descriptor.{Descriptor}
use Rattle.mc_signal.specs.declared.Selector.{Selector}
use Rattle.mc_signal.specs.declared.Signal.{Signal}
use Rattle.mc_signal.specs.declared.Signal.TheVariants.{Open, Oack, Close, Closeack, Describe, Select}
use Rattle.mc_slot.specs.Moves.{slot_send, slot_take, Took}
use Rattle.mc_slot.specs.Outlook.{ack_of, close_of}
use Rattle.mc_slot.specs.Tunnel.{Kept}
use Rattle.mc_slot.specs.declared.Slot.{Slot}
use Rattle.mc_slot.specs.declared.State.TheVariants.{Flowing, Closing}

-- a taking keeps the medium
pub took_medium : (a : Slot) (signal : Signal) (took : Took) → slot_take a signal ≡ Some took → took.after.medium ≡ a.medium
took_medium a signal took goes = grind (arith)

-- a taking keeps the side
pub took_side : (a : Slot) (signal : Signal) (took : Took) → slot_take a signal ≡ Some took → took.after.initiator ≡ a.initiator
took_side a signal took goes = grind (arith)

-- after a taking the slot keeps what its new state allows
pub took_kept : (a : Slot) (signal : Signal) (took : Took) → slot_take a signal ≡ Some took → Kept a → Kept took.after
took_kept a signal took goes k = grind (arith)

-- a closing slot takes what another slot of its medium takes, but for a closeack
pub took_closing : (c a : Slot) (signal : Signal) (took : Took) → slot_take a signal ≡ Some took → c.state ≡ Closing → c.medium ≡ a.medium → ack_of signal ≡ 0
    → (answer : Option Signal) × (slot_take c signal ≡ Some record { answer = answer; after = c })
took_closing c a (Open m d) took goes is same none = (None, grind (arith))
took_closing c a (Oack d) took goes is same none = (None, grind (arith))
took_closing c a Close took goes is same none = (Some Closeack, grind (arith))
took_closing c a Closeack took goes is same none = (None, grind (arith))
took_closing c a (Describe d) took goes is same none = (None, grind (arith))
took_closing c a (Select s) took goes is same none = (None, grind (arith))

-- no slot becomes closing by a taking
pub took_was_closing : (a : Slot) (signal : Signal) (took : Took) → slot_take a signal ≡ Some took → took.after.state ≡ Closing → (a.state ≡ Closing) × (ack_of signal ≡ 0)
took_was_closing a signal took goes is = grind (arith)

-- a slot with other things sent
abbrev pub resent : Slot → Option Descriptor → Option Selector → Slot
resent a slot_send chosen = record a { sent = slot_send; sel_out = chosen }

-- takes what isn'took a close, flowing on: what it sent is neither read nor written
pub took_flowing : (a : Slot) (signal : Signal) (took : Took) → slot_take a signal ≡ Some took → a.state ≡ Flowing → close_of signal ≡ 0
    → (took.after.state ≡ Flowing) × (took.after.sent ≡ a.sent) × (took.after.sel_out ≡ a.sel_out)
took_flowing a signal took goes is none = grind (arith)

-- a flowing slot that sent other things takes the same, and then differs in the same
pub took_resent : (a : Slot) (signal : Signal) (took : Took) (d : Option Descriptor) (s : Option Selector) → slot_take a signal ≡ Some took → a.state ≡ Flowing → close_of signal ≡ 0
    → slot_take (resent a d s) signal ≡ Some record { answer = None; after = resent took.after d s }
took_resent a signal took d s goes is none = grind (arith)
