-- What signals weigh, and that a taking at an end removes more than the end then sends.
use Rattle.std.specs.Prelude.{◌≡◌, ◌≤◌, ◌<◌, ◌+◌, ◌*◌, ℕ, Option, Some, List, [], ◌∷◌, ◌++◌}
use Rattle.mc_signal.specs.declared.Descriptor.{Descriptor}
use Rattle.mc_signal.specs.declared.Sender.{Sender}
use Rattle.mc_signal.specs.declared.Signal.{Signal}
use Rattle.mc_signal.specs.declared.Signal.TheVariants.{Open, Oack, Close, Closeack, Describe, Select}
use Rattle.mc_slot.specs.EndTurn.{end_turn, IsAtRest, cause_of, is_push}
use Rattle.mc_slot.specs.Moves.{answer_signals, slot_send_all, slot_take}
use Rattle.mc_slot.specs.Tunnel.{Kept}
use Rattle.mc_slot.specs.declared.Goal.{Goal}
use Rattle.mc_slot.specs.declared.Goal.TheVariants.{Open as ToOpen}
use Rattle.mc_slot.specs.declared.Slot.{Slot}
use Rattle.mc_slot.specs.declared.State.{State}
use Rattle.mc_slot.specs.declared.State.TheVariants.{Closing}

-- a signal's weight in one tunnel, for a bound n on what it may have to pay for
abbrev pub weight : ℕ → Signal → ℕ
weight n (Open medium d) = n * (n * n)
weight n (Oack d) = n * n
weight n (Describe d) = n
weight n Close = n
weight n (Select s) = 1
weight n Closeack = 1

-- the weight of a list
abbrev pub weights : ℕ → List Signal → ℕ
weights n [] = 0
weights n (signal ∷ signals) = weight n signal + weights n signals

-- 1 for an end that will open once its closeack comes
abbrev pub stored_end : Goal → State → ℕ
stored_end ToOpen Closing = 1
stored_end goal state = 0

-- the weight that an end at rest takes from its own tunnel is more than what it then sends over y tunnels, the open
-- that it stores counted
abbrev pub EndPays : Type 0
EndPays =
    (goal : Goal) (slot after last : Slot) (own : Descriptor) (me : Sender) (signal : Signal) (answer : Option Signal)
    (n y : ℕ)
    → Kept slot → IsAtRest goal slot own me → slot_take slot signal ≡ Some record { answer = answer; after = after }
    → slot_send_all after (end_turn goal after (is_push (cause_of signal after.state)) own me) ≡ Some last
    → 1 ≤ y → y < n
    → 1 + y * weights n (answer_signals answer ++ end_turn goal after (is_push (cause_of signal after.state)) own me)
    + y * (n * (n * n)) * stored_end goal last.state
    ≤ weight n signal + y * (n * (n * n)) * stored_end goal slot.state
