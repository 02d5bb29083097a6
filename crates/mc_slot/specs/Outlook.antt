-- A slot after it has taken what is under way to it, and the closes and closeacks among that.
use Rattle.std.specs.Prelude.{ℕ, ◌+◌, Option, Some, List, [], ◌∷◌}
use Rattle.std.specs.Option.{option_and_then}
use Rattle.mc_signal.specs.declared.Signal.{Signal}
use Rattle.mc_signal.specs.declared.Signal.TheVariants.{Close, Closeack}
use Rattle.mc_slot.specs.Moves.{slot_take}
use Rattle.mc_slot.specs.declared.Slot.{Slot}
use Rattle.mc_slot.specs.declared.State.{State}
use Rattle.mc_slot.specs.declared.State.TheVariants.{Closing}

-- the slot after taking the signals in order, if each is lawful when its turn comes
abbrev pub outlook : Slot → List Signal → Option Slot
outlook slot [] = Some slot
outlook slot (signal ∷ signals) = option_and_then (λ took. outlook took.after signals) (slot_take slot signal)

-- 1 for a close
abbrev pub close_of : Signal → ℕ
close_of Close = 1
close_of signal = 0

-- 1 for a closeack
abbrev pub ack_of : Signal → ℕ
ack_of Closeack = 1
ack_of signal = 0

-- how many closes there are
abbrev pub closes : List Signal → ℕ
closes [] = 0
closes (signal ∷ signals) = close_of signal + closes signals

-- how many closeacks there are
abbrev pub acks : List Signal → ℕ
acks [] = 0
acks (signal ∷ signals) = ack_of signal + acks signals

-- 1 where the slot waits for a closeack
abbrev pub waits : State → ℕ
waits Closing = 1
waits state = 0
