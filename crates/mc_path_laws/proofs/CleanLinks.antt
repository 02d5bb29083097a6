-- A link of which no slot takes a close or a closeack: it sends none.
use Rattle.std.proofs.Common.{◌≡◌, ◌+◌, ◌++◌, ◌&&◌, Bool, true, false, Option, Some, None, ap, refl, sym, ◌∙◌, arith}
use Rattle.mc_link.specs.LinkTurn.{selector_due, lean, link_turn, descriptor_due, sent_by_first, sent_by_second, closed_side}
use Rattle.mc_link.specs.declared.Side.TheVariants.{First}
use Rattle.mc_link.proofs.Mirror.{link_mirror}
use Rattle.mc_link.proofs.Parts.{both, live_both}
use Rattle.mc_link.proofs.Sides.{first_of_four}
use Rattle.mc_signal.specs.declared.Signal.{Signal}
use Rattle.mc_slot.specs.Moves.{answer_signals, is_live, slot_take}
use Rattle.mc_slot.specs.Outlook.{ack_of, close_of}
use Rattle.mc_slot.specs.declared.Slot.{Slot}
use Rattle.mc_slot.specs.declared.State.{State}
use Rattle.mc_path_laws.proofs.CleanEnds.{endings, endings-append, took_open}
use Rattle.mc_slot.specs.EndTurn.{cause_of}

-- ---- what a link sends by its states

-- what a link passes on is no close and no closeack: descriptors
passes_none : (a b : Slot) → endings (descriptor_due a b) ≡ 0
passes_none a b = grind (arith)

-- nor selectors
chooses_none : (a b : Slot) → endings (selector_due a b) ≡ 0
chooses_none a b = grind (arith)

-- an open at most, where one of the two isn't live
calm_none : (a b : Slot) → is_live a.state && is_live b.state ≡ false → endings (sent_by_first (lean a b)) ≡ 0
calm_none a b calm = grind (arith)

-- nor an open
first_by : (live : Bool) (a b : Slot) → is_live a.state && is_live b.state ≡ live → endings (sent_by_first (lean a b)) ≡ 0
first_by false a b is = calm_none a b is
first_by true a b is =
    let live = both (is_live a.state) (is_live b.state) is in
    let parts : sent_by_first (lean a b) ≡ descriptor_due a b ++ selector_due a b =
    ap sent_by_first (live_both a b live.0 live.1) ∙ first_of_four (descriptor_due a b) (descriptor_due b a) (selector_due a b) (selector_due b a) in
    ap endings parts ∙ (endings-append (descriptor_due a b) (selector_due a b) ∙ omega (arith, passes_none a b, chooses_none a b))

-- the first slot sends none
first_none : (a b : Slot) → endings (sent_by_first (link_turn a b None)) ≡ 0
first_none a b = first_by (is_live a.state && is_live b.state) a b refl

-- and so does the second
second_none : (a b : Slot) → endings (sent_by_second (link_turn a b None)) ≡ 0
second_none a b = ap endings (sym (link_mirror a b None).0) ∙ first_none b a

-- ---- after a taking

-- a signal that is none closes no slot
closed_none : (signal : Signal) (state : State) → close_of signal + ack_of signal ≡ 0 → closed_side (cause_of signal state) First ≡ None
closed_none signal state none = grind (arith)

-- the slot that takes sends none, its answer counted
pub taker_sends_none : (a b middle : Slot) (signal : Signal) (answer : Option Signal) → slot_take a signal ≡ Some record { answer = answer; after = middle } → close_of signal + ack_of signal ≡ 0
    → endings (answer_signals answer ++ sent_by_first (link_turn middle b (closed_side (cause_of signal middle.state) First))) ≡ 0
taker_sends_none a b middle signal answer goes none =
    let silent = (took_open a middle signal answer goes none).0 in
    rw (silent, closed_none signal middle.state none) (first_none middle b)

-- nor does its partner
pub partner_sends_none : (b middle : Slot) (signal : Signal) → close_of signal + ack_of signal ≡ 0 → endings (sent_by_second (link_turn middle b (closed_side (cause_of signal middle.state) First))) ≡ 0
partner_sends_none b middle signal none = rw (closed_none signal middle.state none) (second_none middle b)
