-- Laws of a link's turn: when it has come to rest, and how much it sends.
use Rattle.std.specs.Prelude.{◌≡◌, ◌≤◌, ◌+◌, Option, Some, None, length}
use Rattle.mc_signal.specs.declared.Signal.{Signal}
use Rattle.mc_slot.specs.Moves.{answer_signals, slot_send_all, slot_take}
use Rattle.mc_slot.specs.Tunnel.{Kept}
use Rattle.mc_slot.specs.declared.Slot.{Slot}
use Rattle.mc_link.specs.LinkTurn.{link_turn, IsLinkAtRest, sent_by_first, sent_by_second, closed_side}
use Rattle.mc_link.specs.declared.Side.{Side}
use Rattle.mc_link.specs.declared.Side.TheVariants.{First, Second}
use Rattle.mc_slot.specs.EndTurn.{cause_of}

-- the same slot, where the two change their places
abbrev pub other_side : Option Side → Option Side
other_side None = None
other_side (Some First) = Some Second
other_side (Some Second) = Some First

-- after a turn the link is at rest: a second turn sends nothing
abbrev pub LinkRestsAfterTurn : Type 0
LinkRestsAfterTurn = (a b a_after b_after : Slot) (closed_by_far : Option Side)
    → Kept a → Kept b
    → slot_send_all a (sent_by_first (link_turn a b closed_by_far)) ≡ Some a_after
    → slot_send_all b (sent_by_second (link_turn a b closed_by_far)) ≡ Some b_after
    → IsLinkAtRest a_after b_after

-- where the first slot of a link at rest takes a signal, the answer and the turn are at most three signals
abbrev pub LinkSendsThree : Type 0
LinkSendsThree = (a b after : Slot) (signal : Signal) (answer : Option Signal)
    → Kept a → IsLinkAtRest a b → slot_take a signal ≡ Some record { answer = answer; after = after }
    → length (answer_signals answer) + length (link_turn after b (closed_side (cause_of signal after.state) First)) ≤ 3

-- and so where the second slot takes one
abbrev pub SecondSlotSendsThree : Type 0
SecondSlotSendsThree = (a b after : Slot) (signal : Signal) (answer : Option Signal)
    → Kept b → IsLinkAtRest a b → slot_take b signal ≡ Some record { answer = answer; after = after }
    → length (answer_signals answer) + length (link_turn a after (closed_side (cause_of signal after.state) Second)) ≤ 3

-- each slot sends the same, and both send as much, whichever of them is called the first
abbrev pub LinkMirror : Type 0
LinkMirror = (a b : Slot) (closed_by_far : Option Side)
    → (sent_by_first (link_turn b a (other_side closed_by_far)) ≡ sent_by_second (link_turn a b closed_by_far))
    × (sent_by_second (link_turn b a (other_side closed_by_far)) ≡ sent_by_first (link_turn a b closed_by_far))
    × (length (link_turn b a (other_side closed_by_far)) ≡ length (link_turn a b closed_by_far))
