-- What a box's Take comes to, by the goal of the slot that takes: what that slot and, over a link, its partner send and become. No other slot does anything.
use Rattle.std.proofs.Common.{◌≡◌, ◌≢◌, ℕ, ◌<◌, true, false, nat_lt, ◌&&◌, Option, Some, None, List, [], ◌++◌, map, inl, inr, length, max, min, refl, ap, sym, ◌∙◌, subst, arith}
use Rattle.std.specs.Option.{option_map}
use Rattle.std.proofs.Math.ListN.{set, length-set}
use Rattle.std.proofs.lemmas.Bool.{and_parts, cases_lt, lt-ltb, le-ltb}
use Rattle.std.proofs.lemmas.List.{get_or-set_same, get_or-set_other}
use Rattle.mc_link.specs.LinkLaws.{other_side}
use Rattle.mc_link.specs.LinkTurn.{IsLinkAtRest, link_turn, with_number, sent_by_first, sent_by_second, closed_side}
use Rattle.mc_link.specs.declared.Side.{Side}
use Rattle.mc_link.specs.declared.Side.TheVariants.{First, Second}
use Rattle.mc_link.proofs.Mirror.{link_mirror, mirror_rests, side_turned}
use Rattle.mc_signal.specs.declared.Descriptor.{Descriptor}
use Rattle.mc_signal.specs.declared.Sender.{Sender}
use Rattle.mc_signal.specs.declared.Signal.{Signal}
use Rattle.mc_slot.specs.EndTurn.{end_turn, owes, cause_of, is_push}
use Rattle.mc_slot.specs.Moves.{answer_signals, slot_send_all, slot_take, Took}
use Rattle.mc_slot.specs.Sending.{pair_of}
use Rattle.mc_slot.specs.declared.Cause.{Cause}
use Rattle.mc_slot.specs.declared.Cause.TheVariants.{Push}
use Rattle.mc_slot.specs.declared.Goal.{Goal}
use Rattle.mc_slot.specs.declared.Slot.{Slot}
use Rattle.mc_slot.specs.declared.SlotGoal.{SlotGoal}
use Rattle.mc_slot.specs.declared.SlotGoal.TheVariants.{End, Link}
use Rattle.mc_box.specs.Acting.{sent_by}
use Rattle.mc_box.specs.BoxEvents.{BoxStep, with_answer, box_event, end_step, goal_step, link_step, pair_step, side_of, take_step, goal_step_by}
use Rattle.mc_box.specs.BoxSound.{IsWired, IsSoundBox, RestsAt}
use Rattle.mc_box.specs.Boxes.{BoxState, slot_owes, is_slot, no_slot, box_owes, slot_at, goal_at, media_at, own, sender, with_slot}
use Rattle.mc_box.specs.declared.event.Event.TheVariants.{Take, Retry}
use Rattle.mc_box.proofs.Changes.{slot_inside}
use Rattle.mc_box.proofs.GoalTurns.{end_form, pair_else, pair_form, pair_high, pair_low}
use Rattle.mc_box.proofs.Held.{own_put, sender_put}
use Rattle.mc_box.proofs.Options.{if_some, map_some, then_some}
use Rattle.mc_box.proofs.SentBy.{sent_by-append, sent_by_own, sent_by_other, sent_by_low, sent_by_high, sent_by_neither}

-- ---- one turn

-- a slot that does nothing
pub record Idle (box : BoxState) (step : BoxStep) (k : ℕ) : Type 0 where
  pub sends : sent_by k step.sent ≡ []
  pub stays : slot_at step.after k ≡ slot_at box k

-- the turn of an end, for its slot as it is
pub record EndTurned (box : BoxState) (local : ℕ) (signals : List Signal) (slot : Slot) (turn : BoxStep) : Type 0 where
  pub goes : slot_send_all slot signals ≡ Some (slot_at turn.after local)
  pub sends : sent_by local turn.sent ≡ signals
  pub others : (k : ℕ) → k ≢ local → Idle box turn k
  pub goals : turn.after.goals ≡ box.goals

-- the slot of an end after what it sends stands in the box
end_put : (box : BoxState) (local : ℕ) (signals : List Signal) (last : Slot) → local < length box.slots → slot_send_all (slot_at box local) signals ≡ Some last
    → EndTurned box local signals (slot_at box local) (record { sent = map (pair_of local) signals; after = with_slot box local last })
end_put box local signals last inside goes = record {
  goes = goes ∙ ap Some (sym (get_or-set_same box.slots local last no_slot inside));
  sends = sent_by_own local signals;
  others = λ k apart. record { sends = sent_by_other k local signals apart; stays = get_or-set_other box.slots local k last no_slot apart };
  goals = refl;
}

-- so what an end's turn comes to is what its slot sends and becomes
pub end_turned : (box : BoxState) (local : ℕ) (goal : Goal) (cause : Cause) (turn : BoxStep) → local < length box.slots → end_step goal box local cause ≡ Some turn
    → EndTurned box local (end_turn goal (slot_at box local) (is_push cause) (own box local) (sender box local)) (slot_at box local) turn
end_turned box local goal cause turn inside goes =
    let form = end_form box local goal cause turn goes in
    subst (EndTurned box local (end_turn goal (slot_at box local) (is_push cause) (own box local) (sender box local)) (slot_at box local)) form.is
    (end_put box local (end_turn goal (slot_at box local) (is_push cause) (own box local) (sender box local)) form.last inside form.goes)

-- the turn of a link, for its two slots as they are, and with the one of them that a close has closed
pub record LinkTurned (box : BoxState) (local partner : ℕ) (a b : Slot) (closed : Option Side) (turn : BoxStep) : Type 0 where
  pub first : slot_send_all a (sent_by_first (link_turn a b closed)) ≡ Some (slot_at turn.after local)
  pub second : slot_send_all b (sent_by_second (link_turn a b closed)) ≡ Some (slot_at turn.after partner)
  pub sends : sent_by local turn.sent ≡ sent_by_first (link_turn a b closed)
  pub partner_sends : sent_by partner turn.sent ≡ sent_by_second (link_turn a b closed)
  pub others : (k : ℕ) → k ≢ local → k ≢ partner → Idle box turn k
  pub goals : turn.after.goals ≡ box.goals

-- both slots of a link after what they send stand in the box
pair_put : (box : BoxState) (low high : ℕ) (a b first second : Slot) (closed : Option Side) → low < high → high < length box.slots
    → slot_send_all a (sent_by_first (link_turn a b closed)) ≡ Some first → slot_send_all b (sent_by_second (link_turn a b closed)) ≡ Some second
    → LinkTurned box low high a b closed (record { sent = map (with_number low high) (link_turn a b closed); after = with_slot (with_slot box low first) high second })
pair_put box low high a b first second closed order inside one two =
    let apart : low ≢ high = omega arith in
    record {
      first = one ∙ ap Some (sym (pair_low box.slots low high first second order (omega arith)));
      second = two ∙ ap Some (sym (pair_high box.slots low high first second inside));
      sends = sent_by_low low high (link_turn a b closed) apart;
      partner_sends = sent_by_high low high (link_turn a b closed) apart;
      others = λ k below above. record { sends = sent_by_neither k low high (link_turn a b closed) below above; stays = pair_else box.slots low high k first second below above };
      goals = refl;
    }

-- so what a link's turn comes to is what its two slots send and become
pair_turned : (box : BoxState) (low high : ℕ) (closed : Option Side) (turn : BoxStep) → low < high → high < length box.slots → pair_step box low high closed ≡ Some turn
    → LinkTurned box low high (slot_at box low) (slot_at box high) closed turn
pair_turned box low high closed turn order inside goes =
    let form = pair_form box low high closed turn goes in
    subst (LinkTurned box low high (slot_at box low) (slot_at box high) closed) form.is
    (pair_put box low high (slot_at box low) (slot_at box high) form.first form.second closed order inside form.first_goes form.second_goes)

-- from the other side
turned_back : (box : BoxState) (local partner : ℕ) (a b : Slot) (closed : Option Side) (turn : BoxStep)
    → LinkTurned box partner local b a (other_side closed) turn → LinkTurned box local partner a b closed turn
turned_back box local partner a b closed turn turned =
    let mirror = link_mirror a b closed in
    record {
      first = subst (λ (l : List Signal). slot_send_all a l ≡ Some (slot_at turn.after local)) mirror.1 turned.second;
      second = subst (λ (l : List Signal). slot_send_all b l ≡ Some (slot_at turn.after partner)) mirror.0 turned.first;
      sends = turned.partner_sends ∙ mirror.1;
      partner_sends = turned.sends ∙ mirror.0;
      others = λ k here there. turned.others k there here;
      goals = turned.goals;
    }

-- seen from the slot that takes, whether it is the lower one or the higher
pub link_turned : (box : BoxState) (local partner : ℕ) (cause : Cause) (turn : BoxStep) → partner ≢ local → local < length box.slots → partner < length box.slots
    → link_step box local partner cause ≡ Some turn → LinkTurned box local partner (slot_at box local) (slot_at box partner) (closed_side cause First) turn
link_turned box local partner cause turn other here there goes = elim (cases_lt local partner) [
  | inl below ↦
      let low : min local partner ≡ local = omega arith in
      let high : max local partner ≡ partner = omega arith in
      let side : side_of local partner ≡ First = let test : nat_lt local partner ≡ true = lt-ltb local partner below in rw test refl in
      let made : pair_step box local partner (closed_side cause First) ≡ Some turn =
      subst (λ (s : Side). pair_step box local partner (closed_side cause s) ≡ Some turn) side
      (subst (λ (k : ℕ). pair_step box local k (closed_side cause (side_of local partner)) ≡ Some turn) high
      (subst (λ (k : ℕ). pair_step box k (max local partner) (closed_side cause (side_of local partner)) ≡ Some turn) low goes)) in
      pair_turned box local partner (closed_side cause First) turn below there made
  | inr above ↦
      let low : min local partner ≡ partner = omega arith in
      let high : max local partner ≡ local = omega arith in
      let side : side_of local partner ≡ Second = let test : nat_lt local partner ≡ false = le-ltb local partner above in rw test refl in
      let made : pair_step box partner local (closed_side cause Second) ≡ Some turn =
      subst (λ (s : Side). pair_step box partner local (closed_side cause s) ≡ Some turn) side
      (subst (λ (k : ℕ). pair_step box partner k (closed_side cause (side_of local partner)) ≡ Some turn) high
      (subst (λ (k : ℕ). pair_step box k (max local partner) (closed_side cause (side_of local partner)) ≡ Some turn) low goes)) in
      turned_back box local partner (slot_at box local) (slot_at box partner) (closed_side cause First) turn
      (subst (λ (closed : Option Side). LinkTurned box partner local (slot_at box partner) (slot_at box local) closed turn) (side_turned cause)
      (pair_turned box partner local (closed_side cause Second) turn (omega arith) here made))
]

-- ---- a signal is taken

-- an end takes a signal, and has its turn
pub record EndTook (box : BoxState) (local : ℕ) (goal : Goal) (signal : Signal) (step : BoxStep) : Type 0 where
  pub answer : Option Signal
  pub middle : Slot
  pub takes : slot_take (slot_at box local) signal ≡ Some record { answer = answer; after = middle }
  pub goes : slot_send_all middle (end_turn goal middle (is_push (cause_of signal middle.state)) (own box local) (sender box local)) ≡ Some (slot_at step.after local)
  pub sends : sent_by local step.sent ≡ answer_signals answer ++ end_turn goal middle (is_push (cause_of signal middle.state)) (own box local) (sender box local)
  pub others : (k : ℕ) → k ≢ local → Idle box step k
  pub goals : step.after.goals ≡ box.goals

-- a slot of a link takes a signal, and the link has its turn
pub record LinkTook (box : BoxState) (local partner : ℕ) (signal : Signal) (step : BoxStep) : Type 0 where
  pub answer : Option Signal
  pub middle : Slot
  pub takes : slot_take (slot_at box local) signal ≡ Some record { answer = answer; after = middle }
  pub first : slot_send_all middle (sent_by_first (link_turn middle (slot_at box partner) (closed_side (cause_of signal middle.state) First))) ≡ Some (slot_at step.after local)
  pub second : slot_send_all (slot_at box partner) (sent_by_second (link_turn middle (slot_at box partner) (closed_side (cause_of signal middle.state) First))) ≡ Some (slot_at step.after partner)
  pub sends : sent_by local step.sent ≡ answer_signals answer ++ sent_by_first (link_turn middle (slot_at box partner) (closed_side (cause_of signal middle.state) First))
  pub partner_sends : sent_by partner step.sent ≡ sent_by_second (link_turn middle (slot_at box partner) (closed_side (cause_of signal middle.state) First))
  pub others : (k : ℕ) → k ≢ local → k ≢ partner → Idle box step k
  pub goals : step.after.goals ≡ box.goals

-- by the goal of the slot
abbrev pub TookBy : SlotGoal → BoxState → ℕ → Signal → BoxStep → Type 0
TookBy (End goal) box local signal step = EndTook box local goal signal step
TookBy (Link partner) box local signal step = LinkTook box local partner signal step

-- the answer is the slot's own
answer_own : (local : ℕ) (answer : Option Signal) (turn : BoxStep) (signals : List Signal) → sent_by local turn.sent ≡ signals
    → sent_by local (map (pair_of local) (answer_signals answer) ++ turn.sent) ≡ answer_signals answer ++ signals
answer_own local answer turn signals is =
    sent_by-append local (map (pair_of local) (answer_signals answer)) turn.sent
    ∙ (ap (λ (l : List Signal). l ++ sent_by local turn.sent) (sent_by_own local (answer_signals answer)) ∙ ap (λ (l : List Signal). answer_signals answer ++ l) is)

-- and no other slot's
answer_else : (local k : ℕ) (answer : Option Signal) (turn : BoxStep) (signals : List Signal) → k ≢ local → sent_by k turn.sent ≡ signals
    → sent_by k (map (pair_of local) (answer_signals answer) ++ turn.sent) ≡ signals
answer_else local k answer turn signals apart is =
    sent_by-append k (map (pair_of local) (answer_signals answer)) turn.sent
    ∙ (ap (λ (l : List Signal). l ++ sent_by k turn.sent) (sent_by_other k local (answer_signals answer) apart) ∙ is)

-- a slot that does nothing in the turn, and hasn't taken
idle_still : (box : BoxState) (local k : ℕ) (middle : Slot) (answer : Option Signal) (turn : BoxStep) → k ≢ local → Idle (with_slot box local middle) turn k → Idle box (with_answer local answer turn) k
idle_still box local k middle answer turn apart idle = record {
  sends = answer_else local k answer turn [] apart idle.sends;
  stays = idle.stays ∙ get_or-set_other box.slots local k middle no_slot apart;
}

-- with the answer of a Take before it: at an end
end_answers : (box : BoxState) (local : ℕ) (goal : Goal) (signal : Signal) (answer : Option Signal) (middle : Slot) (turn : BoxStep)
    → slot_take (slot_at box local) signal ≡ Some record { answer = answer; after = middle }
    → EndTurned (with_slot box local middle) local (end_turn goal middle (is_push (cause_of signal middle.state)) (own box local) (sender box local)) middle turn
    → EndTook box local goal signal (with_answer local answer turn)
end_answers box local goal signal answer middle turn takes turned = record {
  answer = answer;
  middle = middle;
  takes = takes;
  goes = turned.goes;
  sends = answer_own local answer turn (end_turn goal middle (is_push (cause_of signal middle.state)) (own box local) (sender box local)) turned.sends;
  others = λ k apart. idle_still box local k middle answer turn apart (turned.others k apart);
  goals = turned.goals;
}

-- and at a link
link_answers : (box : BoxState) (local partner : ℕ) (signal : Signal) (answer : Option Signal) (middle : Slot) (turn : BoxStep) → partner ≢ local
    → slot_take (slot_at box local) signal ≡ Some record { answer = answer; after = middle }
    → LinkTurned (with_slot box local middle) local partner middle (slot_at box partner) (closed_side (cause_of signal middle.state) First) turn
    → LinkTook box local partner signal (with_answer local answer turn)
link_answers box local partner signal answer middle turn other takes turned = record {
  answer = answer;
  middle = middle;
  takes = takes;
  first = turned.first;
  second = turned.second;
  sends = answer_own local answer turn (sent_by_first (link_turn middle (slot_at box partner) (closed_side (cause_of signal middle.state) First))) turned.sends;
  partner_sends = answer_else local partner answer turn (sent_by_second (link_turn middle (slot_at box partner) (closed_side (cause_of signal middle.state) First))) other turned.partner_sends;
  others = λ k apart beyond. idle_still box local k middle answer turn apart (turned.others k apart beyond);
  goals = turned.goals;
}

-- so a Take comes to what the goal of its slot says
took_by : (goal : SlotGoal) (box : BoxState) (local : ℕ) (signal : Signal) (answer : Option Signal) (middle : Slot) (turn : BoxStep) → IsWired box → local < length box.slots
    → goal_at box local ≡ goal → slot_take (slot_at box local) signal ≡ Some record { answer = answer; after = middle }
    → goal_step_by goal (with_slot box local middle) local (cause_of signal middle.state) ≡ Some turn → TookBy goal box local signal (with_answer local answer turn)
took_by (End goal) box local signal answer middle turn wired inside is takes goes =
    let slot : slot_at (with_slot box local middle) local ≡ middle = get_or-set_same box.slots local middle no_slot inside in
    let mine : own (with_slot box local middle) local ≡ own box local = own_put box.kind box (set box.slots local middle) box.goals box.media (media_at box local) local in
    let me : sender (with_slot box local middle) local ≡ sender box local = sender_put box.kind box (set box.slots local middle) box.goals box.media (media_at box local) local in
    let there : local < length (set box.slots local middle) = subst (λ (n : ℕ). local < n) (sym (length-set box.slots local middle)) inside in
    end_answers box local goal signal answer middle turn takes
    (subst (λ (a : Slot). EndTurned (with_slot box local middle) local (end_turn goal a (is_push (cause_of signal middle.state)) (own box local) (sender box local)) a turn) slot
    (subst (λ (d : Descriptor). EndTurned (with_slot box local middle) local (end_turn goal (slot_at (with_slot box local middle) local) (is_push (cause_of signal middle.state)) d (sender box local)) (slot_at (with_slot box local middle) local) turn) mine
    (subst (λ (m : Sender). EndTurned (with_slot box local middle) local (end_turn goal (slot_at (with_slot box local middle) local) (is_push (cause_of signal middle.state)) (own (with_slot box local middle) local) m) (slot_at (with_slot box local middle) local) turn) me
    (end_turned (with_slot box local middle) local goal (cause_of signal middle.state) turn there goes))))
took_by (Link partner) box local signal answer middle turn wired inside is takes goes =
    let link = wired.links local partner is in
    let here : slot_at (with_slot box local middle) local ≡ middle = get_or-set_same box.slots local middle no_slot inside in
    let there : slot_at (with_slot box local middle) partner ≡ slot_at box partner = get_or-set_other box.slots local partner middle no_slot link.other in
    link_answers box local partner signal answer middle turn link.other takes
    (subst (λ (b : Slot). LinkTurned (with_slot box local middle) local partner middle b (closed_side (cause_of signal middle.state) First) turn) there
    (subst (λ (a : Slot). LinkTurned (with_slot box local middle) local partner a (slot_at (with_slot box local middle) partner) (closed_side (cause_of signal middle.state) First) turn) here
    (link_turned (with_slot box local middle) local partner (cause_of signal middle.state) turn link.other
    (subst (λ (n : ℕ). local < n) (sym (length-set box.slots local middle)) inside)
    (subst (λ (n : ℕ). partner < n) (sym (length-set box.slots local middle)) link.inside) goes)))

-- a Take of a box that is as it should be
step_took : (box : BoxState) (local : ℕ) (signal : Signal) (step : BoxStep) → IsWired box → local < length box.slots → take_step box local signal ≡ Some step
    → TookBy (goal_at box local) box local signal step
step_took box local signal step wired inside goes =
    let one = then_some (λ (took : Took). option_map (with_answer local took.answer)
    (goal_step (with_slot box local took.after) local (cause_of signal took.after.state))) (slot_take (slot_at box local) signal) step goes in
    let two = map_some (with_answer local one.0.answer) (goal_step (with_slot box local one.0.after) local (cause_of signal one.0.after.state)) step one.2 in
    subst (TookBy (goal_at box local) box local signal) two.2
    (took_by (goal_at box local) box local signal one.0.answer one.0.after two.0 wired inside refl one.1 two.1)

-- what the Take of a sound box comes to
pub take_turned : (box : BoxState) (local : ℕ) (signal : Signal) (step : BoxStep) → IsSoundBox box → box_event box (Take local) (Some signal) ≡ Some step
    → TookBy (goal_at box local) box local signal step
take_turned box local signal step sound goes =
    let one = if_some (is_slot box local) (take_step box local signal) step goes in
    step_took box local signal step sound.wired (slot_inside box local one.0) one.1

-- the goals stay
goals_by : (goal : SlotGoal) (box : BoxState) (local : ℕ) (signal : Signal) (step : BoxStep) → TookBy goal box local signal step → step.after.goals ≡ box.goals
goals_by (End goal) box local signal step took = took.goals
goals_by (Link partner) box local signal step took = took.goals

-- a Take leaves all goals as they were
pub take_goals : (box : BoxState) (local : ℕ) (signal : Signal) (step : BoxStep) → IsSoundBox box → box_event box (Take local) (Some signal) ≡ Some step → step.after.goals ≡ box.goals
take_goals box local signal step sound goes = goals_by (goal_at box local) box local signal step (take_turned box local signal step sound goes)

-- ---- a retry

-- an end that is to open and is closed is pushed
pub record Retried (box : BoxState) (local : ℕ) (step : BoxStep) : Type 0 where
  pub goal : Goal
  pub inside : local < length box.slots
  pub aims : goal_at box local ≡ End goal
  pub owed : owes goal (slot_at box local) ≡ true
  pub turned : EndTurned box local (end_turn goal (slot_at box local) true (own box local) (sender box local)) (slot_at box local) step

-- and so does a Retry, which an end alone owes
retried_by : (goal : SlotGoal) (box : BoxState) (local : ℕ) (step : BoxStep) → local < length box.slots → goal_at box local ≡ goal → slot_owes goal (slot_at box local) ≡ true
    → goal_step_by goal box local Push ≡ Some step → Retried box local step
retried_by (End goal) box local step inside aims owed goes = record { goal = goal; inside = inside; aims = aims; owed = owed; turned = end_turned box local goal Push step inside goes }
retried_by (Link partner) box local step inside aims owed goes = absurd (cc)

-- what a Retry comes to
pub retry_turned : (box : BoxState) (local : ℕ) (step : BoxStep) → box_event box (Retry local) None ≡ Some step → Retried box local step
retry_turned box local step goes =
    let one = if_some (is_slot box local && box_owes box local) (goal_step box local Push) step goes in
    let parts = and_parts (is_slot box local) (box_owes box local) one.0 in
    retried_by (goal_at box local) box local step (slot_inside box local parts.0) refl parts.1 one.1

-- ---- at rest

-- a link rests, whichever of its slots is asked
pub link_rests_from : (box : BoxState) (local partner : ℕ) → RestsAt (Link partner) box local → IsLinkAtRest (slot_at box local) (slot_at box partner)
link_rests_from box local partner rest = elim (cases_lt local partner) [
  | inl below ↦
      let low : min local partner ≡ local = omega arith in
      let high : max local partner ≡ partner = omega arith in
      subst (λ (k : ℕ). IsLinkAtRest (slot_at box local) (slot_at box k)) high (subst (λ (k : ℕ). IsLinkAtRest (slot_at box k) (slot_at box (max local partner))) low rest)
  | inr above ↦
      let low : min local partner ≡ partner = omega arith in
      let high : max local partner ≡ local = omega arith in
      mirror_rests (slot_at box partner) (slot_at box local)
      (subst (λ (k : ℕ). IsLinkAtRest (slot_at box partner) (slot_at box k)) high (subst (λ (k : ℕ). IsLinkAtRest (slot_at box k) (slot_at box (max local partner))) low rest))
]
