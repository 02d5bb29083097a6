-- Laws of the turns of an end: what it sends, and when it has come to rest.
use Rattle.std.specs.Prelude.{◌≡◌, ◌≤◌, ◌+◌, Option, Some, Bool, length}
use Rattle.mc_signal.specs.declared.Descriptor.{Descriptor}
use Rattle.mc_signal.specs.declared.Sender.{Sender}
use Rattle.mc_signal.specs.declared.Signal.{Signal}
use Rattle.mc_slot.specs.EndTurn.{end_turn, IsAtRest, cause_of, is_push}
use Rattle.mc_slot.specs.Moves.{answer_signals, slot_send_all, slot_take}
use Rattle.mc_slot.specs.Tunnel.{Kept}
use Rattle.mc_slot.specs.declared.Goal.{Goal}
use Rattle.mc_slot.specs.declared.Slot.{Slot}

-- after a turn the end is at rest: a second turn sends nothing
abbrev pub EndRestsAfterTurn : Type 0
EndRestsAfterTurn = (goal : Goal) (slot after : Slot) (pushed : Bool) (own : Descriptor) (me : Sender)
    → Kept slot → slot_send_all slot (end_turn goal slot pushed own me) ≡ Some after → IsAtRest goal after own me

-- an end at rest that takes a signal answers and sends at most two signals
abbrev pub EndSendsTwo : Type 0
EndSendsTwo =
    (goal : Goal) (slot after : Slot) (own : Descriptor) (me : Sender) (signal : Signal) (answer : Option Signal)
    → Kept slot → IsAtRest goal slot own me → slot_take slot signal ≡ Some record { answer = answer; after = after }
    → length (answer_signals answer) + length (end_turn goal after (is_push (cause_of signal after.state)) own me) ≤ 2

-- any turn of an end sends at most two signals
abbrev pub TurnSendsTwo : Type 0
TurnSendsTwo =
    (goal : Goal) (slot : Slot) (pushed : Bool) (own : Descriptor) (me : Sender)
    → length (end_turn goal slot pushed own me) ≤ 2
