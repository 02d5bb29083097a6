-- A taking, from the turn that it leads to.
use Rattle.std.proofs.Common.{◌≡◌, ◌∙◌, ℕ, ◌+◌, ◌<◌, ◌≤◌, ◌++◌, [], List, Option, Some, ap, append_assoc, length, map, sym, subst, length-take-le}
use Rattle.std.specs.Option.{option_and_then, option_map}
use Rattle.mc_signal.specs.declared.Signal.{Signal}
use Rattle.mc_slot.specs.EndTurn.{cause_of}
use Rattle.mc_slot.specs.Moves.{answer_signals, slot_take, Took}
use Rattle.mc_slot.specs.Sending.{Adds, pair_of, sends_of}
use Rattle.mc_slot.specs.declared.Cause.{Cause}
use Rattle.mc_slot.specs.declared.Slot.{Slot}
use Rattle.mc_slot.specs.declared.sends.Sends.{Sends}
use Rattle.mc_box.specs.BoxEvents.{AddsStep, BoxStep, goal_step, step_of, take_step, turn_length, with_answer}
use Rattle.mc_box.specs.BoxSound.{IsSoundBox}
use Rattle.mc_box.specs.Boxes.{BoxState, slot_at, with_slot}
use Rattle.mc_box.proofs.TakeThree.{take_length}

-- how many signals a turn sends
pub sends_length : (sends : Sends) → sends.len ≤ length sends.at → length (sends_of sends) ≡ sends.len
sends_length sends fits = length-take-le sends.len sends.at fits

-- the slot that was read is the one that takes
pub took_there : (box : BoxState) (local : ℕ) (slot : Slot) (signal : Signal) (answer : Option Signal) (after : Slot) → slot ≡ slot_at box local
    → slot_take slot signal ≡ Some record { answer = answer; after = after } → slot_take (slot_at box local) signal ≡ Some record { answer = answer; after = after }
took_there box local slot signal answer after is goes = subst (λ (s : Slot). slot_take s signal ≡ Some (record { answer = answer; after = after })) is goes

-- the answer and the turn that the signal leads to are at most three
pub took_length : (box : BoxState) (local : ℕ) (signal : Signal) (answer : Option Signal) (after : Slot) (cause : Cause) → IsSoundBox box → local < length box.slots
    → slot_take (slot_at box local) signal ≡ Some record { answer = answer; after = after } → cause ≡ cause_of signal after.state
    → length (answer_signals answer) + turn_length (with_slot box local after) local cause ≤ 3
took_length box local signal answer after cause sound inside goes is =
    subst (λ (c : Cause). length (answer_signals answer) + turn_length (with_slot box local after) local c ≤ 3) (sym is)
    (take_length box local signal answer after sound inside goes)

-- the answer and then the turn are added
pub took_adds : (box : BoxState) (local : ℕ) (signal : Signal) (answer : Option Signal) (middle : Slot) (cause : Cause) (after : BoxState) (old answered new : Sends)
    → slot_take (slot_at box local) signal ≡ Some record { answer = answer; after = middle } → cause ≡ cause_of signal middle.state
    → Adds old answered local (answer_signals answer) → AddsStep (goal_step (with_slot box local middle) local cause) after answered new
    → AddsStep (take_step box local signal) after old new
took_adds box local signal answer middle cause after old answered new takes is adds turn =
    let took : take_step box local signal ≡ option_map (with_answer local answer) (goal_step (with_slot box local middle) local (cause_of signal middle.state)) =
    ap (λ (o : Option Took). option_and_then (λ took. option_map (with_answer local took.answer) (goal_step (with_slot box local took.after) local (cause_of signal took.after.state))) o) takes in
    let turned : goal_step (with_slot box local middle) local (cause_of signal middle.state) ≡ Some (record { sent = turn.sent; after = after }) =
    subst (λ (c : Cause). goal_step (with_slot box local middle) local c ≡ Some (record { sent = turn.sent; after = after })) is turn.goes in
    record {
      sent = map (pair_of local) (answer_signals answer) ++ turn.sent;
      goes = took ∙ ap (λ (o : Option BoxStep). option_map (with_answer local answer) o) turned;
      appended = turn.appended
          ∙ (ap (λ (l : List (ℕ × Signal)). l ++ turn.sent) adds ∙ append_assoc (sends_of old) (map (pair_of local) (answer_signals answer)) turn.sent);
    }

-- what is added to an empty list is all that is there
pub adds_all : (made : Option BoxStep) (after : BoxState) (old new : Sends) → sends_of old ≡ [] → AddsStep made after old new → made ≡ Some (step_of new after)
adds_all made after old new none adds =
    let all : adds.sent ≡ sends_of new = sym (adds.appended ∙ ap (λ (l : List (ℕ × Signal)). l ++ adds.sent) none) in
    adds.goes ∙ ap (λ (sent : List (ℕ × Signal)). Some (record { sent = sent; after = after })) all
