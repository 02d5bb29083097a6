-- A slot that flows before and after it acts, and to which describes and selects alone were under way: it has sent nothing else, and nothing else is still under way to it.
use Rattle.std.proofs.Common.{◌≡◌, ◌++◌, ◌+◌, ◌&&◌, ◌⊎◌, inl, inr, ℕ, Bool, true, Option, Some, None, List, [], ◌∷◌, refl, sym, subst, ◌∙◌, arith}
use Rattle.std.specs.List.{list_all}
use Rattle.std.proofs.lemmas.Bool.{and_parts}
use Rattle.std.proofs.lemmas.List.Folds.{list_all-append}
use Rattle.mc_signal.specs.declared.Signal.{Signal}
use Rattle.mc_slot.specs.Moves.{answer_signals, slot_send, slot_send_all, slot_take}
use Rattle.mc_slot.specs.Outlook.{ack_of, acks, close_of, closes}
use Rattle.mc_slot.specs.declared.Slot.{Slot}
use Rattle.mc_slot.specs.declared.State.TheVariants.{Closing, Flowing}
use Rattle.mc_box.specs.Acting.{Acted, sends, takes}
use Rattle.mc_box.proofs.Options.{then_some}
use Rattle.mc_path_laws.proofs.CleanEnds.{endings, front_none}
use Rattle.mc_program_laws.specs.Held.{is_update}

-- both of two tests
pub both_true : (a b : Bool) → a ≡ true → b ≡ true → a && b ≡ true
both_true a b one two = rw (one, two) refl

-- two lists of updates are one
pub updates-append : (first second : List Signal) → list_all is_update first ≡ true → list_all is_update second ≡ true → list_all is_update (first ++ second) ≡ true
updates-append first second one two = list_all-append is_update first second ∙ both_true (list_all is_update first) (list_all is_update second) one two

-- an update is no close and no closeack
update_none : (signal : Signal) → is_update signal ≡ true → close_of signal + ack_of signal ≡ 0
update_none signal is = grind (arith)

-- a sum of sums
sums_none : (close ack closes acks : ℕ) → close + ack ≡ 0 → closes + acks ≡ 0 → (close + closes) + (ack + acks) ≡ 0
sums_none close ack closes acks one two = omega arith

-- so there are none among updates
pub updates_none : (signals : List Signal) → list_all is_update signals ≡ true → endings signals ≡ 0
updates_none [] all = omega arith
updates_none (signal ∷ signals) all =
    let parts = and_parts (is_update signal) (list_all is_update signals) all in
    sums_none (close_of signal) (ack_of signal) (closes signals) (acks signals) (update_none signal parts.0) (updates_none signals parts.1)

-- ---- what a flowing slot sends

-- it is an update, or closes the slot
sent_flows : (a after : Slot) (signal : Signal) → a.state ≡ Flowing → slot_send a signal ≡ Some after → ((is_update signal ≡ true) × (after.state ≡ Flowing)) ⊎ (after.state ≡ Closing)
sent_flows a after signal is goes = grind (arith)

-- what is no close and no closeack leaves it flowing
sent_flowing : (a after : Slot) (signal : Signal) → a.state ≡ Flowing → close_of signal + ack_of signal ≡ 0 → slot_send a signal ≡ Some after → after.state ≡ Flowing
sent_flowing a after signal is none goes = grind (arith)

-- a closing slot sends nothing
closing_sends : (a after : Slot) (signal : Signal) → a.state ≡ Closing → slot_send a signal ≡ Some after → ⊥
closing_sends a after signal is goes = grind (arith)

-- so it stays closing
closing_stays : (signals : List Signal) (a after : Slot) → a.state ≡ Closing → slot_send_all a signals ≡ Some after → after.state ≡ Closing
closing_stays [] a after is goes = cc
closing_stays (signal ∷ signals) a after is goes =
    let one = then_some (λ (next : Slot). slot_send_all next signals) (slot_send a signal) after goes in
    absurd (closing_sends a one.0 signal is one.1)

-- no slot is flowing and closing
not_both : (a : Slot) → a.state ≡ Flowing → a.state ≡ Closing → ⊥
not_both a flows closing = cc

-- so a slot that flows before and after it has sent signals has sent updates
all_updates : (signals : List Signal) (a after : Slot) → a.state ≡ Flowing → slot_send_all a signals ≡ Some after → after.state ≡ Flowing → list_all is_update signals ≡ true
all_updates [] a after is goes flows = refl
all_updates (signal ∷ signals) a after is goes flows =
    let one = then_some (λ (next : Slot). slot_send_all next signals) (slot_send a signal) after goes in
    elim (sent_flows a one.0 signal is one.1) [
      | inl on ↦ both_true (is_update signal) (list_all is_update signals) on.0 (all_updates signals one.0 after on.1 one.2 flows)
      | inr closing ↦ absurd (not_both after flows (closing_stays signals one.0 after closing one.2))
    ]

-- and it flows after signals without a close and a closeack
pub all_flow : (signals : List Signal) (a after : Slot) → a.state ≡ Flowing → slot_send_all a signals ≡ Some after → endings signals ≡ 0 → after.state ≡ Flowing
all_flow [] a after is goes none = cc
all_flow (signal ∷ signals) a after is goes none =
    let one = then_some (λ (next : Slot). slot_send_all next signals) (slot_send a signal) after goes in
    let parts = front_none signal signals none in
    all_flow signals one.0 after (sent_flowing a one.0 signal is parts.0 one.1) one.2 parts.1

-- ---- what a flowing slot takes

-- an update isn't answered
took_update : (a after : Slot) (signal : Signal) (answer : Option Signal) → a.state ≡ Flowing → is_update signal ≡ true → slot_take a signal ≡ Some record { answer = answer; after = after }
    → (answer ≡ None) × (after.state ≡ Flowing)
took_update a after signal answer is update goes = (grind (arith), grind (arith))

-- ---- a slot acts

-- one that still flows after it has sent updates, and updates are still under way to it
pub acted_updates : (a : Slot) (to_a signals : List Signal) (after : Slot) (left : List Signal) → Acted a to_a signals after left
    → a.state ≡ Flowing → list_all is_update to_a ≡ true → after.state ≡ Flowing → (list_all is_update signals ≡ true) × (list_all is_update left ≡ true)
acted_updates a to_a signals after _ (sends goes) is all flows = (all_updates signals a after is goes flows, all)
acted_updates a _ _ after left (takes {signal = signal} middle signals answer goes sent) is all flows =
    let parts = and_parts (is_update signal) (list_all is_update left) all in
    let took = took_update a middle signal answer is parts.0 goes in
    (subst (λ (o : Option Signal). list_all is_update (answer_signals o ++ signals) ≡ true) (sym took.0) (all_updates signals middle after took.1 sent flows), parts.1)

-- one that sends no close and no closeack still flows
pub acted_flows : (a : Slot) (to_a signals : List Signal) (after : Slot) (left : List Signal) → Acted a to_a signals after left
    → a.state ≡ Flowing → list_all is_update to_a ≡ true → endings signals ≡ 0 → after.state ≡ Flowing
acted_flows a to_a signals after _ (sends goes) is all none = all_flow signals a after is goes none
acted_flows a _ _ after left (takes {signal = signal} middle signals answer goes sent) is all none =
    let parts = and_parts (is_update signal) (list_all is_update left) all in
    let took = took_update a middle signal answer is parts.0 goes in
    all_flow signals middle after took.1 sent (subst (λ (o : Option Signal). endings (answer_signals o ++ signals) ≡ 0) took.0 none)
