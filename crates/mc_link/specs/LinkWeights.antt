-- That a taking at a link removes more weight than the link then sends.
use Rattle.std.specs.Prelude.{◌≡◌, ◌≤◌, ◌<◌, ◌+◌, ◌*◌, ℕ, Option, Some, ◌++◌}
use Rattle.mc_signal.specs.declared.Signal.{Signal}
use Rattle.mc_slot.specs.Moves.{answer_signals, slot_send_all, slot_take}
use Rattle.mc_slot.specs.Tunnel.{Kept}
use Rattle.mc_slot.specs.declared.Slot.{Slot}
use Rattle.mc_slot.specs.declared.State.{State}
use Rattle.mc_slot.specs.declared.State.TheVariants.{Closed, Opening, Opened, Flowing, Closing}
use Rattle.mc_slot_laws.specs.Weights.{weight, weights}
use Rattle.mc_link.specs.LinkTurn.{link_turn, IsLinkAtRest, sent_by_first, sent_by_second, closed_side}
use Rattle.mc_link.specs.declared.Side.TheVariants.{First, Second}
use Rattle.mc_slot.specs.EndTurn.{cause_of}

-- 1 for a linked slot that is closed, or will be, while the other slot asks for media: an open is still to come from it
abbrev pub stored_link : State → State → ℕ
stored_link Closed Opening = 1
stored_link Closed Opened = 1
stored_link Closed Flowing = 1
stored_link Closing Opening = 1
stored_link Closing Opened = 1
stored_link Closing Flowing = 1
stored_link state other = 0

-- y tunnels lie on the first slot's side of the link, and x on the second slot's. A signal weighs once for each tunnel
-- that it may still go over: one
-- that comes to the first slot for its own tunnel and for x. At a link at rest that is more than what both slots then
-- send weighs, the stored opens counted
abbrev pub LinkPays : Type 0
LinkPays = (a b middle a_after b_after : Slot) (signal : Signal) (answer : Option Signal) (n x y : ℕ)
    → Kept a → Kept b → IsLinkAtRest a b → slot_take a signal ≡ Some record { answer = answer; after = middle }
    → slot_send_all middle (sent_by_first (link_turn middle b (closed_side (cause_of signal middle.state) First)))
    ≡ Some a_after
    → slot_send_all b (sent_by_second (link_turn middle b (closed_side (cause_of signal middle.state) First)))
    ≡ Some b_after
    → 1 ≤ x → 1 ≤ y → y < n
    → 1
    + y * weights n (answer_signals answer
    ++ sent_by_first (link_turn middle b (closed_side (cause_of signal middle.state) First)))
    + x * weights n (sent_by_second (link_turn middle b (closed_side (cause_of signal middle.state) First)))
    + n * (n * n) * (y * stored_link a_after.state b_after.state + x * stored_link b_after.state a_after.state)
    ≤ (x + 1) * weight n signal + n * (n * n) * (y * stored_link a.state b.state + x * stored_link b.state a.state)

-- the same of a signal that comes to the second slot, for its own tunnel and for y
abbrev pub SecondSlotPays : Type 0
SecondSlotPays = (a b middle a_after b_after : Slot) (signal : Signal) (answer : Option Signal) (n x y : ℕ)
    → Kept a → Kept b → IsLinkAtRest a b → slot_take b signal ≡ Some record { answer = answer; after = middle }
    → slot_send_all a (sent_by_first (link_turn a middle (closed_side (cause_of signal middle.state) Second)))
    ≡ Some a_after
    → slot_send_all middle (sent_by_second (link_turn a middle (closed_side (cause_of signal middle.state) Second)))
    ≡ Some b_after
    → 1 ≤ x → 1 ≤ y → x < n
    → 1
    + x * weights n (answer_signals answer
    ++ sent_by_second (link_turn a middle (closed_side (cause_of signal middle.state) Second)))
    + y * weights n (sent_by_first (link_turn a middle (closed_side (cause_of signal middle.state) Second)))
    + n * (n * n) * (y * stored_link a_after.state b_after.state + x * stored_link b_after.state a_after.state)
    ≤ (y + 1) * weight n signal + n * (n * n) * (y * stored_link a.state b.state + x * stored_link b.state a.state)
