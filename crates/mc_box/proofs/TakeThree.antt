-- A sound box that takes a signal sends at most three.
use Rattle.std.proofs.Common.{◌≡◌, ◌≢◌, ℕ, ◌+◌, ◌<◌, ◌≤◌, true, false, Option, Some, map, inl, inr, length, max, min, nat_lt, refl, ap, subst, arith, length-append}
use Rattle.std.specs.Option.{option_map}
use Rattle.std.proofs.Math.ListN.{set}
use Rattle.std.proofs.lemmas.Bool.{cases_lt, lt-ltb, le-ltb}
use Rattle.std.proofs.lemmas.Grind.{common_steps}
use Rattle.std.proofs.lemmas.List.{get_or-set_same, get_or-set_other, length-map}
use Rattle.mc_link.specs.LinkTurn.{link_turn, IsLinkAtRest, closed_side}
use Rattle.mc_link.specs.declared.Side.{Side}
use Rattle.mc_link.specs.declared.Side.TheVariants.{First, Second}
use Rattle.mc_link.proofs.LinkThree.{link_sends_three}
use Rattle.mc_link.proofs.SecondSlot.{second_slot_sends_three}
use Rattle.mc_signal.specs.declared.Descriptor.{Descriptor}
use Rattle.mc_signal.specs.declared.Sender.{Sender}
use Rattle.mc_signal.specs.declared.Signal.{Signal}
use Rattle.mc_slot.specs.EndTurn.{end_turn, IsAtRest, cause_of, is_push}
use Rattle.mc_slot.specs.Moves.{answer_signals, slot_take, Took}
use Rattle.mc_slot.specs.Sending.{pair_of}
use Rattle.mc_slot.specs.Tunnel.{Kept}
use Rattle.mc_slot.specs.declared.Goal.{Goal}
use Rattle.mc_slot.specs.declared.Slot.{Slot}
use Rattle.mc_slot.specs.declared.SlotGoal.{SlotGoal}
use Rattle.mc_slot.specs.declared.SlotGoal.TheVariants.{End, Link}
use Rattle.mc_box.specs.BoxEvents.{BoxStep, with_answer, goal_step, side_of, take_step, turn_length, turn_length_by}
use Rattle.mc_box.specs.BoxSound.{IsSoundBox, RestsAt}
use Rattle.mc_box.specs.Boxes.{BoxState, is_slot, no_slot, slot_at, goal_at, media_at, own, sender, with_slot}
use Rattle.mc_box.specs.EventLaws.{TakeSendsThree}
use Rattle.mc_box.proofs.Changes.{slot_inside}
use Rattle.mc_box.proofs.Held.{own_put, sender_put}
use Rattle.mc_box.proofs.Options.{if_some, map_some, then_some}
use Rattle.mc_box.proofs.GoalTurns.{turn_is}

-- ---- an end

end_two : (goal : Goal) (slot after : Slot) (mine : Descriptor) (me : Sender) (signal : Signal) (answer : Option Signal)
    → Kept slot → IsAtRest goal slot mine me → slot_take slot signal ≡ Some record { answer = answer; after = after }
    → length (answer_signals answer) + length (end_turn goal after (is_push (cause_of signal after.state)) mine me) ≤ 2
end_two goal slot after mine me signal answer kept rest goes = grind (arith, common_steps)

-- ---- a box

-- the turn of an end that took, with the answer
end_length : (box : BoxState) (local : ℕ) (signal : Signal) (goal : Goal) (answer : Option Signal) (after : Slot) → IsSoundBox box → local < length box.slots
    → goal_at box local ≡ End goal → slot_take (slot_at box local) signal ≡ Some record { answer = answer; after = after }
    → length (answer_signals answer) + turn_length_by (End goal) (with_slot box local after) local (cause_of signal after.state) ≤ 3
end_length box local signal goal answer after sound inside is goes =
    let slot : slot_at (with_slot box local after) local ≡ after = get_or-set_same box.slots local after no_slot inside in
    let mine : own (with_slot box local after) local ≡ own box local = own_put box.kind box (set box.slots local after) box.goals box.media (media_at box local) local in
    let me : sender (with_slot box local after) local ≡ sender box local = sender_put box.kind box (set box.slots local after) box.goals box.media (media_at box local) local in
    let rest : IsAtRest goal (slot_at box local) (own box local) (sender box local) = subst (λ (g : SlotGoal). RestsAt g box local) is (sound.rests local) in
    let two = end_two goal (slot_at box local) after (own box local) (sender box local) signal answer (sound.wired.kept local) rest goes in
    let few : length (answer_signals answer) + length (end_turn goal (slot_at (with_slot box local after) local) (is_push (cause_of signal after.state)) (own (with_slot box local after) local) (sender (with_slot box local after) local)) ≤ 2 =
    rw (slot, mine, me) two in
    omega (arith, few)

-- the slots and the close of a link, named otherwise
turn_few : (box : BoxState) (low high : ℕ) (closed : Option Side) (answer : Option Signal) (a b : Slot) (least most : ℕ) (side : Option Side)
    → least ≡ low → most ≡ high → side ≡ closed → slot_at box low ≡ a → slot_at box high ≡ b
    → length (answer_signals answer) + length (link_turn a b closed) ≤ 3
    → length (answer_signals answer) + length (link_turn (slot_at box least) (slot_at box most) side) ≤ 3
turn_few box low high closed answer a b least most side least_is most_is side_is low_is high_is few = rw (least_is, most_is, side_is, low_is, high_is) few

-- that of a link, of which the lower slot or the higher one took
link_length : (box : BoxState) (local partner : ℕ) (signal : Signal) (answer : Option Signal) (after : Slot) → IsSoundBox box → local < length box.slots
    → goal_at box local ≡ Link partner → slot_take (slot_at box local) signal ≡ Some record { answer = answer; after = after }
    → length (answer_signals answer) + turn_length_by (Link partner) (with_slot box local after) local (cause_of signal after.state) ≤ 3
link_length box local partner signal answer after sound inside is goes =
    let other : partner ≢ local = (sound.wired.links local partner is).other in
    let here : slot_at (with_slot box local after) local ≡ after = get_or-set_same box.slots local after no_slot inside in
    let there : slot_at (with_slot box local after) partner ≡ slot_at box partner = get_or-set_other box.slots local partner after no_slot other in
    let rest : RestsAt (Link partner) box local = subst (λ (g : SlotGoal). RestsAt g box local) is (sound.rests local) in
    elim (cases_lt local partner) [
      | inl below ↦
          let low : min local partner ≡ local = omega arith in
          let high : max local partner ≡ partner = omega arith in
          let side : side_of local partner ≡ First = let test : nat_lt local partner ≡ true = lt-ltb local partner below in rw test refl in
          let rests : IsLinkAtRest (slot_at box local) (slot_at box partner) =
          subst (λ (k : ℕ). IsLinkAtRest (slot_at box local) (slot_at box k)) high (subst (λ (k : ℕ). IsLinkAtRest (slot_at box k) (slot_at box (max local partner))) low rest) in
          turn_few (with_slot box local after) local partner (closed_side (cause_of signal after.state) First) answer after (slot_at box partner)
          (min local partner) (max local partner) (closed_side (cause_of signal after.state) (side_of local partner))
          low high (ap (closed_side (cause_of signal after.state)) side) here there
          (link_sends_three (slot_at box local) (slot_at box partner) after signal answer (sound.wired.kept local) rests goes)
      | inr above ↦
          let low : min local partner ≡ partner = omega arith in
          let high : max local partner ≡ local = omega arith in
          let side : side_of local partner ≡ Second = let test : nat_lt local partner ≡ false = le-ltb local partner above in rw test refl in
          let rests : IsLinkAtRest (slot_at box partner) (slot_at box local) =
          subst (λ (k : ℕ). IsLinkAtRest (slot_at box partner) (slot_at box k)) high (subst (λ (k : ℕ). IsLinkAtRest (slot_at box k) (slot_at box (max local partner))) low rest) in
          turn_few (with_slot box local after) partner local (closed_side (cause_of signal after.state) Second) answer (slot_at box partner) after
          (min local partner) (max local partner) (closed_side (cause_of signal after.state) (side_of local partner))
          low high (ap (closed_side (cause_of signal after.state)) side) there here
          (second_slot_sends_three (slot_at box partner) (slot_at box local) after signal answer (sound.wired.kept local) rests goes)
    ]

length_by : (goal : SlotGoal) (box : BoxState) (local : ℕ) (signal : Signal) (answer : Option Signal) (after : Slot) → IsSoundBox box → local < length box.slots
    → goal_at box local ≡ goal → slot_take (slot_at box local) signal ≡ Some record { answer = answer; after = after }
    → length (answer_signals answer) + turn_length_by goal (with_slot box local after) local (cause_of signal after.state) ≤ 3
length_by (End goal) box local signal answer after sound inside is goes = end_length box local signal goal answer after sound inside is goes
length_by (Link partner) box local signal answer after sound inside is goes = link_length box local partner signal answer after sound inside is goes

-- an answer and the turn that follows it are at most three signals
pub take_length : (box : BoxState) (local : ℕ) (signal : Signal) (answer : Option Signal) (after : Slot) → IsSoundBox box → local < length box.slots
    → slot_take (slot_at box local) signal ≡ Some record { answer = answer; after = after }
    → length (answer_signals answer) + turn_length (with_slot box local after) local (cause_of signal after.state) ≤ 3
take_length box local signal answer after sound inside goes = length_by (goal_at box local) box local signal answer after sound inside refl goes

-- the answer and the turn
three_sent : (local : ℕ) (answer : Option Signal) (turn step : BoxStep) → length (answer_signals answer) + length turn.sent ≤ 3 → with_answer local answer turn ≡ step
    → length step.sent ≤ 3
three_sent local answer turn step few is =
    subst (λ (s : BoxStep). length s.sent ≤ 3) is
    (omega (arith, length-append (map (pair_of local) (answer_signals answer)) turn.sent, length-map (answer_signals answer) (pair_of local), few))

take_three : (box : BoxState) (local : ℕ) (signal : Signal) (step : BoxStep) → IsSoundBox box → local < length box.slots → take_step box local signal ≡ Some step → length step.sent ≤ 3
take_three box local signal step sound inside goes =
    let one = then_some (λ (took : Took). option_map (with_answer local took.answer)
    (goal_step (with_slot box local took.after) local (cause_of signal took.after.state))) (slot_take (slot_at box local) signal) step goes in
    let two = map_some (with_answer local one.0.answer) (goal_step (with_slot box local one.0.after) local (cause_of signal one.0.after.state)) step one.2 in
    let size = turn_is (goal_at box local) (with_slot box local one.0.after) local (cause_of signal one.0.after.state) two.0 two.1 in
    three_sent local one.0.answer two.0 step (omega (arith, size, take_length box local signal one.0.answer one.0.after sound inside one.1)) two.2

pub take_sends_three : TakeSendsThree
take_sends_three box local signal step sound goes =
    let one = if_some (is_slot box local) (take_step box local signal) step goes in
    take_three box local signal step sound (slot_inside box local one.0) one.1
