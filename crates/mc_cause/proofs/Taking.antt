-- What a slot is after it has taken a signal, and what its box sends after a close.
use Rattle.std.proofs.Common.{◌≡◌, ◌⊎◌, inl, inr, ℕ, true, false, if◌then◌else◌, Option, Some, None, List, [], ◌∷◌, refl, ap, sym, ◌∙◌, subst, arith}
use Rattle.std.proofs.lemmas.Bool.{cases_eq}
use Rattle.mc_link.specs.LinkTurn.{can_close, closed_side, lean_in, link_turn, sent_by_first, sent_by_second}
use Rattle.mc_link.specs.declared.Side.{Side}
use Rattle.mc_link.specs.declared.Side.TheVariants.{First, Second}
use Rattle.mc_signal.specs.declared.Descriptor.{Descriptor}
use Rattle.mc_signal.specs.declared.Sender.{Sender}
use Rattle.mc_signal.specs.declared.Signal.{Signal}
use Rattle.mc_signal.specs.declared.Signal.TheVariants.{Open, Oack, Close, Closeack, Describe, Select}
use Rattle.mc_slot.specs.EndTurn.{cause_of, end_turn, end_turn_in, is_push}
use Rattle.mc_slot.specs.Moves.{Took, fits_medium, is_live, slot_send, slot_send_all, slot_send_in, slot_take, slot_take_in}
use Rattle.mc_slot.specs.Outlook.{closes, waits}
use Rattle.mc_slot.specs.declared.Goal.{Goal}
use Rattle.mc_slot.specs.declared.Goal.TheVariants.{Open as ToOpen, Close as ToClose, Hold as ToHold}
use Rattle.mc_slot.specs.declared.Slot.{Slot}
use Rattle.mc_slot.specs.declared.SlotGoal.{SlotGoal}
use Rattle.mc_slot.specs.declared.SlotGoal.TheVariants.{End, Link}
use Rattle.mc_slot.specs.declared.State.{State}
use Rattle.mc_slot.specs.declared.State.TheVariants.{Closed, Opening, Opened, Flowing, Closing}
use Rattle.mc_box.specs.Acting.{Acted, sends, sent_by, takes}
use Rattle.mc_box.specs.BoxEvents.{BoxStep}
use Rattle.mc_box.specs.Boxes.{BoxState, own, sender, slot_at}
use Rattle.mc_cause.specs.Causes.{is_closed}
use Rattle.mc_cause.proofs.Begins.{sum_none}
use Rattle.mc_cause.proofs.Counts.{not_longer, sent_open, some_is, took_once}
use Rattle.mc_cause.proofs.Quiet.{NoClose}
use Rattle.mc_box.proofs.Options.{if_some, then_some}
use Rattle.mc_box.proofs.TakeTurns.{TookBy}

-- ---- states

-- it is closed, or waits for a closeack
abbrev pub IsDown : State → Type 0
IsDown state = (state ≡ Closed) ⊎ (state ≡ Closing)

pub down_live : (state : State) → IsDown state → is_live state ≡ false
down_live state (inl is) = ap is_live is
down_live state (inr is) = ap is_live is

closed_is : (state : State) → is_closed state ≡ true → state ≡ Closed
closed_is Closed is = refl
closed_is state is = absurd (cc)

waiting_is : (state : State) → waits state ≡ 1 → state ≡ Closing
waiting_is Closing is = refl
waiting_is Closed is = absurd (omega arith)
waiting_is Opening is = absurd (omega arith)
waiting_is Opened is = absurd (omega arith)
waiting_is Flowing is = absurd (omega arith)

-- ---- a signal is taken

-- a closed slot is opened by it
opened_first : (signal : Signal) (slot : Slot) (took : Took) → slot_take_in Closed slot signal ≡ Some took → is_closed took.after.state ≡ false
opened_first (Open medium d) slot took is = sym (ap (λ (t : Took). is_closed t.after.state) (some_is is))
opened_first signal slot took is = absurd (cc)

stays_down : (slot : Slot) (answer : Option Signal) (took : Took) → slot.state ≡ Closing → record { answer = answer; after = slot } ≡ took → IsDown took.after.state
stays_down slot answer took at is = inr (sym (ap (λ (t : Took). t.after.state) is) ∙ at)

-- one that waits for a closeack waits on, or is closed by it
waited_first : (signal : Signal) (slot : Slot) (took : Took) → slot.state ≡ Closing → slot_take_in Closing slot signal ≡ Some took → IsDown took.after.state
waited_first Closeack slot took at is = inl (sym (ap (λ (t : Took). t.after.state) (some_is is)))
waited_first (Open medium d) slot took at is = stays_down slot None took at (some_is is)
waited_first (Oack d) slot took at is = stays_down slot None took at (some_is is)
waited_first (Describe d) slot took at is = stays_down slot None took at (some_is is)
waited_first (Select s) slot took at is = stays_down slot None took at (some_is is)
waited_first Close slot took at is = stays_down slot (Some Closeack) took at (some_is is)

-- a close closes each other one
closed_down : (state : State) (slot : Slot) (took : Took) → slot.state ≡ state → slot_take_in state slot Close ≡ Some took → IsDown took.after.state
closed_down Closing slot took at is = waited_first Close slot took at is
closed_down Opening slot took at is = inl (sym (ap (λ (t : Took). t.after.state) (some_is is)))
closed_down Opened slot took at is = inl (sym (ap (λ (t : Took). t.after.state) (some_is is)))
closed_down Flowing slot took at is = inl (sym (ap (λ (t : Took). t.after.state) (some_is is)))
closed_down Closed slot took at is = absurd (cc)

close_down : (slot : Slot) (took : Took) → slot_take slot Close ≡ Some took → IsDown took.after.state
close_down slot took is = closed_down slot.state slot took refl (if_some (fits_medium slot Close) (slot_take_in slot.state slot Close) took is).1

-- what a slot sends makes none live that wasn't
sent_one_down : (state : State) (signal : Signal) (slot after : Slot) → is_live state ≡ false → slot_send_in state slot signal ≡ Some after → is_live after.state ≡ false
sent_one_down Closed (Open medium d) slot after down is = sym (ap (λ (s : Slot). is_live s.state) (some_is is))
sent_one_down Opening Close slot after down is = sym (ap (λ (s : Slot). is_live s.state) (some_is is))
sent_one_down state signal slot after down is = absurd (cc)

sent_down : (signals : List Signal) (slot after : Slot) → slot_send_all slot signals ≡ Some after → is_live slot.state ≡ false → is_live after.state ≡ false
sent_down [] slot after is down = sym (ap (λ (s : Slot). is_live s.state) (some_is is)) ∙ down
sent_down (signal ∷ signals) slot after is down =
    let one = then_some (λ (next : Slot). slot_send_all next signals) (slot_send slot signal) after is in
    sent_down signals one.0 after one.2
    (sent_one_down slot.state signal slot one.0 down (if_some (fits_medium slot signal) (slot_send_in slot.state slot signal) one.0 one.1).1)

-- so of a slot that takes and then sends
pub record TakesStates (a after : Slot) : Type 0 where
  pub opens : is_closed a.state ≡ true → is_closed after.state ≡ false
  pub waited : waits a.state ≡ 1 → is_live after.state ≡ false

taken_states : (a after : Slot) (signal : Signal) (signals : List Signal) (took : Took) → slot_take a signal ≡ Some took → slot_send_all took.after signals ≡ Some after → TakesStates a after
taken_states a after signal signals took goes sent =
    let made : slot_take_in a.state a signal ≡ Some took = (if_some (fits_medium a signal) (slot_take_in a.state a signal) took goes).1 in
    record {
      opens = λ closed.
          sent_open signals took.after after sent
          (opened_first signal a took (subst (λ (state : State). slot_take_in state a signal ≡ Some took) (closed_is a.state closed) made));
      waited = λ waited.
          let at : a.state ≡ Closing = waiting_is a.state waited in
          sent_down signals took.after after sent
          (down_live took.after.state (waited_first signal a took at (subst (λ (state : State). slot_take_in state a signal ≡ Some took) at made)));
    }

pub acts_states : (a : Slot) (to sent : List Signal) (after : Slot) (left : List Signal) (signal : Signal) → Acted a to sent after left → to ≡ signal ∷ left → TakesStates a after
acts_states a to sent after _ signal (sends goes) is = absurd (not_longer signal to is)
acts_states a _ _ after rest other (takes {signal = signal} middle signals answer goes sent) is = taken_states a after signal signals (record { answer = answer; after = middle }) goes sent

-- ---- what is sent after a close

-- an end sends nothing
end_closed : (goal : Goal) (slot : Slot) (mine : Descriptor) (me : Sender) → end_turn_in goal Closed slot false mine me ≡ []
end_closed ToClose slot mine me = refl
end_closed ToOpen slot mine me = refl
end_closed ToHold slot mine me = refl

end_waiting : (goal : Goal) (slot : Slot) (mine : Descriptor) (me : Sender) → end_turn_in goal Closing slot false mine me ≡ []
end_waiting ToClose slot mine me = refl
end_waiting ToOpen slot mine me = refl
end_waiting ToHold slot mine me = refl

end_down : (goal : Goal) (state : State) (slot : Slot) (mine : Descriptor) (me : Sender) → IsDown state → end_turn_in goal state slot (is_push (cause_of Close state)) mine me ≡ []
end_down goal state slot mine me (inl is) = subst (λ (at : State). end_turn_in goal at slot (is_push (cause_of Close at)) mine me ≡ []) (sym is) (end_closed goal slot mine me)
end_down goal state slot mine me (inr is) = subst (λ (at : State). end_turn_in goal at slot (is_push (cause_of Close at)) mine me ≡ []) (sym is) (end_waiting goal slot mine me)

-- the turn of a link, by the states of its slots
abbrev link_by : Option Side → State → State → Slot → Slot → List (Side × Signal)
link_by None first second a b = lean_in first second a b
link_by (Some First) first second a b = if can_close second then (Second, Close) ∷ [] else lean_in first second a b
link_by (Some Second) first second a b = if can_close first then (First, Close) ∷ [] else lean_in first second a b

link_is : (closed : Option Side) (a b : Slot) → link_turn a b closed ≡ link_by closed a.state b.state a b
link_is None a b = refl
link_is (Some First) a b = refl
link_is (Some Second) a b = refl

-- of a link the slot that has taken the close sends nothing
first_closed : (second : State) (a b : Slot) → sent_by_first (link_by (Some First) Closed second a b) ≡ []
first_closed Closed a b = refl
first_closed Opening a b = refl
first_closed Opened a b = refl
first_closed Flowing a b = refl
first_closed Closing a b = refl

none_waiting : (second : State) (a b : Slot) → link_by None Closing second a b ≡ []
none_waiting Closed a b = refl
none_waiting Opening a b = refl
none_waiting Opened a b = refl
none_waiting Flowing a b = refl
none_waiting Closing a b = refl

first_down : (a b : Slot) → IsDown a.state → sent_by_first (link_turn a b (closed_side (cause_of Close a.state) First)) ≡ []
first_down a b down = ap sent_by_first (link_is (closed_side (cause_of Close a.state) First) a b) ∙ by_state down
  where
    by_state : IsDown a.state → sent_by_first (link_by (closed_side (cause_of Close a.state) First) a.state b.state a b) ≡ []
    by_state (inl is) = subst (λ (at : State). sent_by_first (link_by (closed_side (cause_of Close at) First) at b.state a b) ≡ []) (sym is) (first_closed b.state a b)
    by_state (inr is) = subst (λ (at : State). sent_by_first (link_by (closed_side (cause_of Close at) First) at b.state a b) ≡ []) (sym is) (ap sent_by_first (none_waiting b.state a b))

-- nor does the other one, where it waits for a closeack still
second_waiting : (a b : Slot) → a.state ≡ Closing → sent_by_second (link_turn a b (closed_side (cause_of Close a.state) First)) ≡ []
second_waiting a b is =
    ap sent_by_second (link_is (closed_side (cause_of Close a.state) First) a b)
    ∙ subst (λ (at : State). sent_by_second (link_by (closed_side (cause_of Close at) First) at b.state a b) ≡ []) (sym is) (ap sent_by_second (none_waiting b.state a b))

-- ---- a box takes a close

-- the slot is down then, and sends no close; and no other sends one where it waits for a closeack still
pub record TookClose (box : BoxState) (local : ℕ) (step : BoxStep) : Type 0 where
  pub own : NoClose (sent_by local step.sent)
  pub down : IsDown (slot_at step.after local).state
  pub still : (slot_at step.after local).state ≡ Closing → (k : ℕ) → NoClose (sent_by k step.sent)

-- a slot that sends nothing is as it was
unsent : (signals : List Signal) (middle after : Slot) → signals ≡ [] → slot_send_all middle signals ≡ Some after → middle ≡ after
unsent signals middle after none goes = some_is (sym (ap (slot_send_all middle) none) ∙ goes)

at_local : (k local : ℕ) (step : BoxStep) → k ≡ local → NoClose (sent_by local step.sent) → NoClose (sent_by k step.sent)
at_local k local step same none = subst (λ (n : ℕ). NoClose (sent_by n step.sent)) (sym same) none

pub took_close : (goal : SlotGoal) (box : BoxState) (local : ℕ) (step : BoxStep) → TookBy goal box local Close step → TookClose box local step
took_close (End goal) box local step took =
    let signals : List Signal = end_turn goal took.middle (is_push (cause_of Close took.middle.state)) (own box local) (sender box local) in
    let down = close_down (slot_at box local) (record { answer = took.answer; after = took.middle }) took.takes in
    let none : end_turn goal took.middle (is_push (cause_of Close took.middle.state)) (own box local) (sender box local) ≡ [] =
    end_down goal took.middle.state took.middle (own box local) (sender box local) down in
    let same : took.middle ≡ slot_at step.after local = unsent signals took.middle (slot_at step.after local) none took.goes in
    let mine : NoClose (sent_by local step.sent) =
    sum_none took.answer signals (sent_by local step.sent) took.sends (took_once (slot_at box local) Close (record { answer = took.answer; after = took.middle }) took.takes).answer (ap closes none) in
    record {
      own = mine;
      down = subst (λ (slot : Slot). IsDown slot.state) same down;
      still = λ waits k. elim (cases_eq k local) [
        | inl here ↦ at_local k local step here mine
        | inr apart ↦ ap closes (took.others k apart).sends
      ];
    }
took_close (Link partner) box local step took =
    let turn : List (Side × Signal) = link_turn took.middle (slot_at box partner) (closed_side (cause_of Close took.middle.state) First) in
    let down = close_down (slot_at box local) (record { answer = took.answer; after = took.middle }) took.takes in
    let none : sent_by_first (link_turn took.middle (slot_at box partner) (closed_side (cause_of Close took.middle.state) First)) ≡ [] = first_down took.middle (slot_at box partner) down in
    let same : took.middle ≡ slot_at step.after local = unsent (sent_by_first turn) took.middle (slot_at step.after local) none took.first in
    let mine : NoClose (sent_by local step.sent) =
    sum_none took.answer (sent_by_first turn) (sent_by local step.sent) took.sends (took_once (slot_at box local) Close (record { answer = took.answer; after = took.middle }) took.takes).answer
    (ap closes none) in
    record {
      own = mine;
      down = subst (λ (slot : Slot). IsDown slot.state) same down;
      still = λ waits k. elim (cases_eq k local) [
        | inl here ↦ at_local k local step here mine
        | inr apart ↦ elim (cases_eq k partner) [
          | inl mate ↦
              at_local k partner step mate
              (ap closes (took.partner_sends ∙ second_waiting took.middle (slot_at box partner) (ap (λ (slot : Slot). slot.state) same ∙ waits)))
          | inr third ↦ ap closes (took.others k apart third).sends
        ]
      ];
    }
