-- How many closes a slot sends, by whether it waits for a closeack before and after that; and by what it becomes closed.
use Rattle.std.proofs.Common.{◌≡◌, ◌+◌, ◌++◌, ◌⊎◌, inl, inr, Bool, true, false, if◌then◌else◌, Option, Some, None, List, [], ◌∷◌, length, refl, ap, sym, ◌∙◌, subst, arith}
use Rattle.mc_signal.specs.declared.Descriptor.{Descriptor}
use Rattle.mc_signal.specs.declared.Medium.{Medium}
use Rattle.mc_signal.specs.declared.Signal.{Signal}
use Rattle.mc_signal.specs.declared.Signal.TheVariants.{Open, Oack, Close, Closeack, Describe, Select}
use Rattle.mc_slot.specs.Moves.{Took, answer_signals, fits_medium, slot_send, slot_send_all, slot_send_in, slot_take, slot_take_in, enter_opened}
use Rattle.mc_slot.specs.Outlook.{ack_of, close_of, closes, waits}
use Rattle.mc_slot.specs.declared.Slot.{Slot}
use Rattle.mc_slot.specs.declared.State.{State}
use Rattle.mc_slot.specs.declared.State.TheVariants.{Closed, Opening, Opened, Flowing, Closing}
use Rattle.mc_box.specs.Acting.{Acted, sends, takes}
use Rattle.mc_cause.specs.Causes.{is_closed}
use Rattle.mc_box.proofs.Options.{if_some, then_some}
use Rattle.mc_slot_laws.proofs.Walks.{closes-append}

pub some_is : {A : Type 0} {x y : A} → Some x ≡ Some y → x ≡ y
some_is is = cc

-- ---- one signal is sent

-- what is seen of the states before and after
record SentOne (state : State) (signal : Signal) (after : Slot) : Type 0 where
  pub waiting : close_of signal + waits state ≡ waits after.state
  pub opens : is_closed after.state ≡ false

sent_as : (state : State) (signal : Signal) (next after : Slot) → close_of signal + waits state ≡ waits next.state → is_closed next.state ≡ false → next ≡ after → SentOne state signal after
sent_as state signal next after counts opens is = record { waiting = counts ∙ ap (λ (s : Slot). waits s.state) is; opens = sym (ap (λ (s : Slot). is_closed s.state) is) ∙ opens }

sent_one : (state : State) (signal : Signal) (slot after : Slot) → slot.state ≡ state → slot_send_in state slot signal ≡ Some after → SentOne state signal after
sent_one Closed (Open medium d) slot after at is = sent_as Closed (Open medium d) _ after refl refl (some_is is)
sent_one Opening Close slot after at is = sent_as Opening Close _ after refl refl (some_is is)
sent_one Opened (Oack d) slot after at is = sent_as Opened (Oack d) _ after refl refl (some_is is)
sent_one Opened Close slot after at is = sent_as Opened Close _ after refl refl (some_is is)
sent_one Flowing (Describe d) slot after at is = sent_as Flowing (Describe d) _ after (sym (ap waits at)) (ap is_closed at) (some_is is)
sent_one Flowing (Select s) slot after at is = sent_as Flowing (Select s) _ after (sym (ap waits at)) (ap is_closed at) (some_is is)
sent_one Flowing Close slot after at is = sent_as Flowing Close _ after refl refl (some_is is)
sent_one state signal slot after at is = absurd (cc)

sent_once : (slot after : Slot) (signal : Signal) → slot_send slot signal ≡ Some after → SentOne slot.state signal after
sent_once slot after signal is = sent_one slot.state signal slot after refl (if_some (fits_medium slot signal) (slot_send_in slot.state slot signal) after is).1

-- ---- signals are sent

-- as many closes are sent as the slot waits for more closeacks than before
pub sent_counts : (signals : List Signal) (slot after : Slot) → slot_send_all slot signals ≡ Some after → closes signals + waits slot.state ≡ waits after.state
sent_counts [] slot after is = let same : waits slot.state ≡ waits after.state = ap (λ (s : Slot). waits s.state) (some_is is) in omega arith
sent_counts (signal ∷ signals) slot after is =
    let one = then_some (λ (next : Slot). slot_send_all next signals) (slot_send slot signal) after is in
    let first : close_of signal + waits slot.state ≡ waits one.0.state = (sent_once slot one.0 signal one.1).waiting in
    let rest : closes signals + waits one.0.state ≡ waits after.state = sent_counts signals one.0 after one.2 in
    omega arith

-- and none becomes closed by that
pub sent_open : (signals : List Signal) (slot after : Slot) → slot_send_all slot signals ≡ Some after → is_closed slot.state ≡ false → is_closed after.state ≡ false
sent_open [] slot after is opens = sym (ap (λ (s : Slot). is_closed s.state) (some_is is)) ∙ opens
sent_open (signal ∷ signals) slot after is opens =
    let one = then_some (λ (next : Slot). slot_send_all next signals) (slot_send slot signal) after is in
    sent_open signals one.0 after one.2 (sent_once slot one.0 signal one.1).opens

-- ---- a signal is taken

-- what is seen of it
pub record TookOne (state : State) (signal : Signal) (took : Took) : Type 0 where
  pub waiting : ack_of signal + waits took.after.state ≡ waits state
  pub answer : closes (answer_signals took.answer) ≡ 0
  pub closed : is_closed state ≡ false → is_closed took.after.state ≡ true → (signal ≡ Close) ⊎ ((signal ≡ Closeack) × (waits state ≡ 1))

took_as : (state : State) (signal : Signal) (next took : Took) → TookOne state signal next → next ≡ took → TookOne state signal took
took_as state signal next took one is = subst (λ (t : Took). TookOne state signal t) is one

-- it is still opens
took_opens : (state : State) (signal : Signal) (answer : Option Signal) (after : Slot) → ack_of signal ≡ 0 → waits after.state ≡ waits state → closes (answer_signals answer) ≡ 0
    → is_closed after.state ≡ false → TookOne state signal (record { answer = answer; after = after })
took_opens state signal answer after other counts none opens = record { waiting = let same : waits after.state ≡ waits state = counts in let zero_ack : ack_of signal ≡ 0 = other in omega arith; answer = none; closed = λ before closed. absurd (cc) }

crossed : (side : Bool) (slot : Slot) (took : Took) (medium : Medium) (d : Descriptor) → slot.state ≡ Opening → record { answer = None; after = if side then slot else enter_opened slot d } ≡ took
    → TookOne Opening (Open medium d) took
crossed true slot took medium d at is = took_as Opening (Open medium d) _ took (took_opens Opening (Open medium d) None slot refl (ap waits at) refl (ap is_closed at)) is
crossed false slot took medium d at is = took_as Opening (Open medium d) _ took (took_opens Opening (Open medium d) None (enter_opened slot d) refl refl refl refl) is

by_close : (state : State) (after : Slot) → waits after.state ≡ waits state → TookOne state Close (record { answer = Some Closeack; after = after })
by_close state after counts = record { waiting = let same : waits after.state ≡ waits state = counts in omega arith; answer = refl; closed = λ before closed. inl refl }

took_one : (state : State) (signal : Signal) (slot : Slot) (took : Took) → slot.state ≡ state → slot_take_in state slot signal ≡ Some took → TookOne state signal took
took_one Closed (Open medium d) slot took at is = took_as Closed (Open medium d) _ took (took_opens Closed (Open medium d) None (enter_opened slot d) refl refl refl refl) (some_is is)
took_one Opening (Open medium d) slot took at is = crossed slot.initiator slot took medium d at (some_is is)
took_one Opening (Oack d) slot took at is = took_as Opening (Oack d) _ took (took_opens Opening (Oack d) None _ refl refl refl refl) (some_is is)
took_one Opening Close slot took at is = took_as Opening Close _ took (by_close Opening _ refl) (some_is is)
took_one Opened Close slot took at is = took_as Opened Close _ took (by_close Opened _ refl) (some_is is)
took_one Flowing (Describe d) slot took at is = took_as Flowing (Describe d) _ took (took_opens Flowing (Describe d) None _ refl (ap waits at) refl (ap is_closed at)) (some_is is)
took_one Flowing (Select s) slot took at is = took_as Flowing (Select s) _ took (took_opens Flowing (Select s) None _ refl (ap waits at) refl (ap is_closed at)) (some_is is)
took_one Flowing Close slot took at is = took_as Flowing Close _ took (by_close Flowing _ refl) (some_is is)
took_one Closing (Open medium d) slot took at is = took_as Closing (Open medium d) _ took (took_opens Closing (Open medium d) None _ refl (ap waits at) refl (ap is_closed at)) (some_is is)
took_one Closing (Oack d) slot took at is = took_as Closing (Oack d) _ took (took_opens Closing (Oack d) None _ refl (ap waits at) refl (ap is_closed at)) (some_is is)
took_one Closing (Describe d) slot took at is = took_as Closing (Describe d) _ took (took_opens Closing (Describe d) None _ refl (ap waits at) refl (ap is_closed at)) (some_is is)
took_one Closing (Select s) slot took at is = took_as Closing (Select s) _ took (took_opens Closing (Select s) None _ refl (ap waits at) refl (ap is_closed at)) (some_is is)
took_one Closing Close slot took at is = took_as Closing Close _ took (by_close Closing _ (ap waits at)) (some_is is)
took_one Closing Closeack slot took at is = took_as Closing Closeack _ took (record { waiting = refl; answer = refl; closed = λ before closed. inr (refl, refl) }) (some_is is)
took_one state signal slot took at is = absurd (cc)

pub took_once : (slot : Slot) (signal : Signal) (took : Took) → slot_take slot signal ≡ Some took → TookOne slot.state signal took
took_once slot signal took is = took_one slot.state signal slot took refl (if_some (fits_medium slot signal) (slot_take_in slot.state slot signal) took is).1

-- ---- a slot acts

-- a slot that takes nothing
pub record SentAll (a after : Slot) (sent : List Signal) : Type 0 where
  pub waiting : closes sent + waits a.state ≡ waits after.state
  pub opens : is_closed a.state ≡ false → is_closed after.state ≡ false

pub not_longer : (signal : Signal) (list : List Signal) → list ≡ signal ∷ list → ⊥
not_longer signal list is = let long : length list ≡ length (signal ∷ list) = ap length is in omega arith

pub acts_idle : (a : Slot) (to sent : List Signal) (after : Slot) (left : List Signal) → Acted a to sent after left → left ≡ to → SentAll a after sent
acts_idle a to sent after _ (sends goes) same = record { waiting = sent_counts sent a after goes; opens = λ opens. sent_open sent a after goes opens }
acts_idle a _ _ after rest (takes {signal = signal} middle signals answer goes sent) same = absurd (not_longer signal rest same)

-- a slot that takes a signal
pub record SentTaking (a after : Slot) (signal : Signal) (sent : List Signal) : Type 0 where
  pub waiting : closes sent + waits a.state ≡ ack_of signal + waits after.state
  pub closed : is_closed a.state ≡ false → is_closed after.state ≡ true → (signal ≡ Close) ⊎ ((signal ≡ Closeack) × (waits a.state ≡ 1))

-- it becomes closed by what it takes
closed_first : (test : Bool) (middle after : Slot) (signals : List Signal) → is_closed middle.state ≡ test → slot_send_all middle signals ≡ Some after → is_closed after.state ≡ true → is_closed middle.state ≡ true
closed_first true middle after signals is goes closed = is
closed_first false middle after signals is goes closed = let opens = sent_open signals middle after goes is in absurd (cc)

same_signal : (signal other : Signal) (list rest : List Signal) → signal ∷ rest ≡ other ∷ list → signal ≡ other
same_signal signal other list rest is = cc

took_all : (a middle after : Slot) (signal : Signal) (answer : Option Signal) (signals : List Signal) → TookOne a.state signal (record { answer = answer; after = middle }) → slot_send_all middle signals ≡ Some after
    → SentTaking a after signal (answer_signals answer ++ signals)
took_all a middle after signal answer signals one goes = record {
  waiting =
      let both : closes (answer_signals answer ++ signals) ≡ closes (answer_signals answer) + closes signals = closes-append (answer_signals answer) signals in
      let first : ack_of signal + waits middle.state ≡ waits a.state = one.waiting in
      let none : closes (answer_signals answer) ≡ 0 = one.answer in
      let more : closes signals + waits middle.state ≡ waits after.state = sent_counts signals middle after goes in
      omega arith;
  closed = λ opens closed. one.closed opens (closed_first (is_closed middle.state) middle after signals refl goes closed);
}

pub acts_taking : (a : Slot) (to sent : List Signal) (after : Slot) (left : List Signal) (signal : Signal) → Acted a to sent after left → to ≡ signal ∷ left → SentTaking a after signal sent
acts_taking a to sent after _ signal (sends goes) is = absurd (not_longer signal to is)
acts_taking a _ _ after rest other (takes {signal = signal} middle signals answer goes sent) is =
    subst (λ (s : Signal). SentTaking a after s (answer_signals answer ++ signals)) (same_signal signal other rest rest is)
    (took_all a middle after signal answer signals (took_once a signal (record { answer = answer; after = middle }) goes) sent)
