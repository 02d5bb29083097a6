-- What each slot of a sound box does in an event.
use Rattle.std.proofs.Common.{◌≡◌, ◌≢◌, ◌==◌, ℕ, ◌<◌, true, Option, Some, None, List, [], ◌∷◌, ◌++◌, map, inl, inr, length, refl, ap, sym, ◌∙◌, subst, arith}
use Rattle.std.specs.Option.{option_map}
use Rattle.std.proofs.Math.ListN.{get_or, set, length-set}
use Rattle.std.proofs.lemmas.Bool.{and_parts, cases_eq}
use Rattle.std.proofs.lemmas.List.{get_or-set_same, get_or-set_other}
use Rattle.mc_signal.specs.declared.Signal.{Signal}
use Rattle.mc_slot.specs.EndTurn.{cause_of}
use Rattle.mc_slot.specs.Moves.{answer_signals, slot_send_all, slot_take, Took}
use Rattle.mc_slot.specs.Sending.{pair_of}
use Rattle.mc_slot.specs.declared.Cause.TheVariants.{Other, Push}
use Rattle.mc_slot.specs.declared.Slot.{Slot}
use Rattle.mc_slot.specs.declared.SlotGoal.{SlotGoal}
use Rattle.mc_box.specs.Acting.{Acted, sends, takes, sent_by, BoxActs, IsSameMake}
use Rattle.mc_box.specs.BoxEvents.{BoxStep, with_answer, enabled_shift, goal_step, goals_step, event_step, with_hearing, is_enabled, media_step, set_step, shift_by, shift_goals, shift_step, take_step, tell_step, with_shift, with_talking}
use Rattle.mc_box.specs.BoxShapes.{is_device}
use Rattle.mc_box.specs.BoxSound.{IsSoundBox, IsWired}
use Rattle.mc_box.specs.Boxes.{BoxState, is_slot, media_at, no_media, no_slot, box_owes, slot_at, with_goals, with_media, with_slot}
use Rattle.mc_box.specs.EventLaws.{EventActs, TakeActs}
use Rattle.mc_box.specs.Goals.{changed_slots, change_goals}
use Rattle.mc_box.specs.declared.event.Change.{Change}
use Rattle.mc_box.specs.declared.event.Event.{Event}
use Rattle.mc_box.specs.declared.event.Event.TheVariants.{Take, Set, Media, Tell, Retry, Shift}
use Rattle.mc_box.specs.declared.event.MediaChange.{MediaChange}
use Rattle.mc_box.specs.declared.event.MediaChange.TheVariants.{Hear, Talk}
use Rattle.mc_box.specs.declared.limit.TheConstants.{LAST_VERSION}
use Rattle.mc_box.specs.declared.setup.SlotMedia.{SlotMedia}
use Rattle.mc_box.proofs.Changes.{change_wired, slot_inside}
use Rattle.mc_box.proofs.Events.{event_goes, event_keeps_sound, media_wired, took_wired}
use Rattle.mc_box.proofs.Folds.{changed_inside}
use Rattle.mc_box.proofs.Options.{else_some, if_some, map_some, then_some}
use Rattle.mc_box.proofs.Shifting.{make_placed, shifted_sound, shifted_wired}
use Rattle.mc_box.proofs.SentBy.{sent_by-append, sent_by_own, sent_by_other}
use Rattle.mc_box.proofs.TurnActs.{make_more, make_slots, none_each, turn_acts, turns_act, SendsEach, TurnActs}

-- ---- a slot acts

-- one that takes nothing
pub acted_sends : (slot after : Slot) (to left signals : List Signal) → left ≡ to → slot_send_all slot signals ≡ Some after → Acted slot to signals after left
acted_sends slot after to left signals same goes = subst (λ (l : List Signal). Acted slot to signals after l) (sym same) (sends goes)

-- one that takes the first of what is under way to it
pub acted_takes : (slot middle after : Slot) (signal : Signal) (to left signals more : List Signal) (answer : Option Signal) → to ≡ signal ∷ left → signals ≡ answer_signals answer ++ more
    → slot_take slot signal ≡ Some record { answer = answer; after = middle } → slot_send_all middle more ≡ Some after → Acted slot to signals after left
acted_takes slot middle after signal to left signals more answer first is goes sent =
    subst (λ (l : List Signal). Acted slot l signals after left) (sym first)
    (subst (λ (l : List Signal). Acted slot (signal ∷ left) l after left) (sym is) (takes middle more answer goes sent))

-- ---- a signal is taken

take_each : (box : BoxState) (local : ℕ) (signal : Signal) (answer : Option Signal) (middle : Slot) (turn : BoxStep) (to left : ℕ → List Signal) → local < length box.slots
    → slot_take (slot_at box local) signal ≡ Some record { answer = answer; after = middle } → SendsEach (with_slot box local middle) turn.sent turn.after
    → to local ≡ signal ∷ left local → ((k : ℕ) → k < length box.slots → k ≢ local → left k ≡ to k)
    → (k : ℕ) → k < length box.slots → Acted (slot_at box k) (to k) (sent_by k (map (pair_of local) (answer_signals answer) ++ turn.sent)) (slot_at turn.after k) (left k)
take_each box local signal answer middle turn to left here goes each first others k inside =
    let there : slot_send_all (slot_at (with_slot box local middle) k) (sent_by k turn.sent) ≡ Some (slot_at turn.after k) =
    each k (subst (λ (n : ℕ). k < n) (sym (length-set box.slots local middle)) inside) in
    elim (cases_eq k local) [
      | inl same ↦
          let now : slot_at (with_slot box local middle) k ≡ middle = ap (slot_at (with_slot box local middle)) same ∙ get_or-set_same box.slots local middle no_slot here in
          let own : sent_by k (map (pair_of local) (answer_signals answer) ++ turn.sent) ≡ answer_signals answer ++ sent_by k turn.sent =
          sent_by-append k (map (pair_of local) (answer_signals answer)) turn.sent
          ∙ ap (λ (l : List Signal). l ++ sent_by k turn.sent) (ap (λ (j : ℕ). sent_by j (map (pair_of local) (answer_signals answer))) same ∙ sent_by_own local (answer_signals answer)) in
          acted_takes (slot_at box k) middle (slot_at turn.after k) signal (to k) (left k) (sent_by k (map (pair_of local) (answer_signals answer) ++ turn.sent)) (sent_by k turn.sent) answer
          (subst (λ (j : ℕ). to j ≡ signal ∷ left j) (sym same) first) own
          (subst (λ (j : ℕ). slot_take (slot_at box j) signal ≡ Some (record { answer = answer; after = middle })) (sym same) goes)
          (subst (λ (s : Slot). slot_send_all s (sent_by k turn.sent) ≡ Some (slot_at turn.after k)) now there)
      | inr other ↦
          let now : slot_at (with_slot box local middle) k ≡ slot_at box k = get_or-set_other box.slots local k middle no_slot other in
          let own : sent_by k (map (pair_of local) (answer_signals answer) ++ turn.sent) ≡ sent_by k turn.sent =
          sent_by-append k (map (pair_of local) (answer_signals answer)) turn.sent
          ∙ ap (λ (l : List Signal). l ++ sent_by k turn.sent) (sent_by_other k local (answer_signals answer) other) in
          acted_sends (slot_at box k) (slot_at turn.after k) (to k) (left k) (sent_by k (map (pair_of local) (answer_signals answer) ++ turn.sent)) (others k inside other)
          (subst (λ (l : List Signal). slot_send_all (slot_at box k) l ≡ Some (slot_at turn.after k)) (sym own)
          (subst (λ (s : Slot). slot_send_all s (sent_by k turn.sent) ≡ Some (slot_at turn.after k)) now there))
    ]

take_acted : (box : BoxState) (local : ℕ) (signal : Signal) (step : BoxStep) (to left : ℕ → List Signal) → IsSoundBox box → local < length box.slots
    → take_step box local signal ≡ Some step → IsSoundBox step.after
    → to local ≡ signal ∷ left local → ((k : ℕ) → k < length box.slots → k ≢ local → left k ≡ to k) → BoxActs box to step left
take_acted box local signal step to left sound here goes after_sound first others =
    let one = then_some (λ (took : Took). option_map (with_answer local took.answer)
    (goal_step (with_slot box local took.after) local (cause_of signal took.after.state))) (slot_take (slot_at box local) signal) step goes in
    let two = map_some (with_answer local one.0.answer) (goal_step (with_slot box local one.0.after) local (cause_of signal one.0.after.state)) step one.2 in
    let turn = turn_acts (with_slot box local one.0.after) local (cause_of signal one.0.after.state) two.0
    (took_wired box local signal one.0 sound.wired here one.1)
    (subst (λ (n : ℕ). local < n) (sym (length-set box.slots local one.0.after)) here) two.1 in
    record {
      acted = subst (λ (s : BoxStep). (k : ℕ) → k < length box.slots → Acted (slot_at box k) (to k) (sent_by k s.sent) (slot_at s.after k) (left k)) two.2
          (take_each box local signal one.0.answer one.0.after two.0 to left here one.1 turn.each first others);
      make = subst (λ (s : BoxStep). IsSameMake s.after box) two.2
          (make_more box (with_slot box local one.0.after) two.0.after
          (make_slots box (set box.slots local one.0.after) (length-set box.slots local one.0.after)) turn.make);
      sound = after_sound;
    }

pub take_acts : TakeActs
take_acts box local signal step to left sound goes first others =
    let one = if_some (is_slot box local) (take_step box local signal) step goes in
    take_acted box local signal step to left sound (slot_inside box local one.0) one.1 (event_keeps_sound box (Take local) (Some signal) step sound goes) first others

-- ---- an event that takes nothing

-- each slot of the box sends its part
record Sends (box : BoxState) (step : BoxStep) : Type 0 where
  each : SendsEach box step.sent step.after
  make : IsSameMake step.after box

-- the slots are as before
sends_from : (box start : BoxState) (step : BoxStep) → start.slots ≡ box.slots → IsSameMake start box → TurnActs start step → Sends box step
sends_from box start step same make turn = record {
  each = λ k inside. subst (λ (l : List Slot). slot_send_all (get_or l k no_slot) (sent_by k step.sent) ≡ Some (slot_at step.after k)) same
      (turn.each k (subst (λ (l : List Slot). k < length l) (sym same) inside));
  make = make_more box start step.after make turn.make;
}

-- other goals, as many, make no other make
make_goals : (box : BoxState) (goals : List SlotGoal) → length goals ≡ length box.goals → IsSameMake (with_goals box goals) box
make_goals box goals size =
    record { alike = record { kind = refl; number = refl; receives = refl; sends = refl; first_version = refl; slots = refl; program = refl }; goals = size; media = refl; origins = λ local. refl }

origin_by : (box : BoxState) (local : ℕ) (media : SlotMedia) (k : ℕ) → local < length box.media → media.origin ≡ (media_at box local).origin
    → (media_at (with_media box local media) k).origin ≡ (media_at box k).origin
origin_by box local media k here same = elim (cases_eq k local) [
  | inl is ↦
      subst (λ (j : ℕ). (media_at (with_media box local media) j).origin ≡ (media_at box j).origin) (sym is)
      (ap (λ (m : SlotMedia). m.origin) (get_or-set_same box.media local media no_media here) ∙ same)
  | inr other ↦ ap (λ (m : SlotMedia). m.origin) (get_or-set_other box.media local k media no_media other)
]

-- nor do other media of the same slot
make_media : (box : BoxState) (local : ℕ) (media : SlotMedia) → local < length box.media → media.origin ≡ (media_at box local).origin → IsSameMake (with_media box local media) box
make_media box local media here same = record {
  alike = record { kind = refl; number = refl; receives = refl; sends = refl; first_version = refl; slots = refl; program = refl };
  goals = refl;
  media = length-set box.media local media;
  origins = λ k. origin_by box local media k here same;
}

-- goals change, to any that leave the box wired
goals_sends : (box : BoxState) (news : List SlotGoal) (step : BoxStep) → IsSoundBox box → IsWired (with_goals box news) → goals_step box news ≡ Some step → Sends box step
goals_sends box news step sound wired goes =
    sends_from box (with_goals box news) step refl (make_goals box news (wired.whole.goals ∙ sym sound.wired.whole.goals))
    (turns_act (changed_slots box.goals news) (with_goals box news) step wired (changed_inside box.goals news 0 (length box.slots) (omega (arith, sound.wired.whole.goals))) goes)

set_sends : (box : BoxState) (change : Change) (step : BoxStep) → IsSoundBox box → is_enabled box (Set change) ≡ true → set_step box change ≡ Some step → Sends box step
set_sends box change step sound enabled goes = goals_sends box (change_goals box.goals change) step sound (change_wired box change sound.wired enabled) goes

tell_sends : (box : BoxState) (word : ℕ) (step : BoxStep) → tell_step box word ≡ Some step → Sends box step
tell_sends box word step goes =
    let same : record { sent = []; after = record box { told = Some word } } ≡ step = cc in
    subst (λ (s : BoxStep). Sends box s) same (record { each = none_each box; make = make_placed box box.at (Some word) })

shift_sends : (box : BoxState) (step : BoxStep) → IsSoundBox box → shift_step box ≡ Some step → Sends box step
shift_sends box step sound goes =
    let one = then_some (shift_by box) (enabled_shift box) step goes in
    let sent = goals_sends (with_shift box one.0) (shift_goals box one.0) step (shifted_sound box one.0 sound one.1) (shifted_wired box one.0 sound one.1) one.2 in
    record { each = sent.each; make = make_more box (with_shift box one.0) step.after (make_placed box (with_shift box one.0).at (with_shift box one.0).told) sent.make }

changed_sends : (box : BoxState) (local : ℕ) (media : SlotMedia) (step : BoxStep) → IsSoundBox box → local < length box.slots → media.origin ≡ (media_at box local).origin
    → goal_step (with_media box local media) local Other ≡ Some step → Sends box step
changed_sends box local media step sound here same goes =
    sends_from box (with_media box local media) step refl (make_media box local media (subst (λ (n : ℕ). local < n) (sym sound.wired.whole.media) here) same)
    (turn_acts (with_media box local media) local Other step (media_wired box local media sound.wired) here goes)

media_sends : (change : MediaChange) (box : BoxState) (step : BoxStep) → IsSoundBox box → is_enabled box (Media change) ≡ true → media_step box change ≡ Some step → Sends box step
media_sends (Hear local on) box step sound enabled goes =
    let here = and_parts (is_device box.kind) (is_slot box local) enabled in
    let turns = else_some ((media_at box local).version == LAST_VERSION) (goal_step (with_media box local (with_hearing on (media_at box local))) local Other) step goes in
    changed_sends box local (with_hearing on (media_at box local)) step sound (slot_inside box local here.1) refl turns.1
media_sends (Talk local on) box step sound enabled goes =
    let here = and_parts (is_device box.kind) (is_slot box local) enabled in
    changed_sends box local (with_talking on (media_at box local)) step sound (slot_inside box local here.1) refl goes

event_sends : (event : Event) (box : BoxState) (step : BoxStep) → IsSoundBox box → is_enabled box event ≡ true → event_step box event ≡ Some step → Sends box step
event_sends (Take local) box step sound enabled goes = absurd (cc)
event_sends (Set change) box step sound enabled goes = set_sends box change step sound enabled goes
event_sends (Media change) box step sound enabled goes = media_sends change box step sound enabled goes
event_sends (Tell word) box step sound enabled goes = tell_sends box word step goes
event_sends (Retry local) box step sound enabled goes =
    let here = and_parts (is_slot box local) (box_owes box local) enabled in
    let turn = turn_acts box local Push step sound.wired (slot_inside box local here.0) goes in
    record { each = turn.each; make = turn.make }
event_sends Shift box step sound enabled goes = shift_sends box step sound goes

pub event_acts : EventActs
event_acts box event step to left sound goes others =
    let one = event_goes event box step goes in
    let sent = event_sends event box step sound one.0 one.1 in
    record {
      acted = λ k inside. acted_sends (slot_at box k) (slot_at step.after k) (to k) (left k) (sent_by k step.sent) (others k inside) (sent.each k inside);
      make = sent.make;
      sound = event_keeps_sound box event None step sound goes;
    }
