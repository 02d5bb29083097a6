-- What a Take takes: the signal at the front of the lane that leads to its slot, from the far slot of that slot's
-- tunnel.
use Rattle.std.specs.Prelude.{ℕ, Bool, true, false, Option}
use Rattle.std.specs.Option.{option_and_then, option_map}
use Rattle.mc_signal.specs.declared.Signal.{Signal}
use Rattle.mc_signal.specs.declared.Signal.TheVariants.{Open, Close, Closeack}
use Rattle.mc_slot.specs.declared.Slot.{Slot}
use Rattle.mc_slot.specs.declared.State.{State}
use Rattle.mc_slot.specs.declared.State.TheVariants.{Opening, Closing}
use Rattle.mc_model.specs.Worlds.{WorldState, far, front, number, slot_of}
use Rattle.mc_ladder.specs.declared.taking.Taking.{Taking}

-- a slot that takes a signal drops it: two opens cross, and this one is the initiator's; or the slot's call has ended,
-- and the signal doesn't end one
abbrev pub drops_in : State → Bool → Signal → Bool
drops_in Opening initiator (Open medium d) = initiator
drops_in Closing initiator Close = false
drops_in Closing initiator Closeack = false
drops_in Closing initiator signal = true
drops_in state initiator signal = false

abbrev pub drops : Slot → Signal → Bool
drops slot signal = drops_in slot.state slot.initiator signal

-- what a slot takes now, by its number
abbrev pub taking_at : WorldState → ℕ → Option Taking
taking_at world s =
    option_map (λ signal. record { slot = s; from = far s; signal = signal; dropped = drops (slot_of world s) signal })
    (front world s)

-- what a box's slot takes now; none where no signal waits for it
abbrev pub taking_of : WorldState → (who local : ℕ) → Option Taking
taking_of world who local = option_and_then (taking_at world) (number world who local)
