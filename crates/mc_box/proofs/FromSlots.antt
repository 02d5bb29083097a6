-- Each signal that a sound box sends is sent by one of its slots.
use Rattle.std.proofs.Common.{◌≡◌, ◌==◌, ℕ, ◌<◌, true, Some, None, List, [], ◌∷◌, ◌++◌, map, length, All, max, min, refl, ap, sym, ◌∙◌, subst, arith}
use Rattle.std.specs.Option.{option_map}
use Rattle.std.proofs.Math.ListN.{length-set}
use Rattle.std.proofs.lemmas.Bool.{and_parts}
use Rattle.std.proofs.lemmas.List.Elements.{All-append, All-map, All-nil}
use Rattle.mc_link.specs.LinkTurn.{link_turn, with_number, closed_side}
use Rattle.mc_link.specs.declared.Side.{Side}
use Rattle.mc_link.specs.declared.Side.TheVariants.{First, Second}
use Rattle.mc_signal.specs.declared.Signal.{Signal}
use Rattle.mc_slot.specs.EndTurn.{end_turn, cause_of, is_push}
use Rattle.mc_slot.specs.Moves.{answer_signals, slot_take, Took}
use Rattle.mc_slot.specs.Sending.{pair_of}
use Rattle.mc_slot.specs.declared.Cause.{Cause}
use Rattle.mc_slot.specs.declared.Cause.TheVariants.{Other, Push}
use Rattle.mc_slot.specs.declared.SlotGoal.{SlotGoal}
use Rattle.mc_slot.specs.declared.SlotGoal.TheVariants.{End, Link}
use Rattle.mc_box.specs.BoxEvents.{BoxStep, with_answer, sends_first, enabled_shift, goal_step, goals_step, event_step, with_hearing, is_enabled, media_step, set_step, shift_by, shift_goals, shift_step, side_of, take_step, tell_step, with_shift, with_talking, goal_step_by, goal_steps}
use Rattle.mc_box.specs.BoxShapes.{is_device}
use Rattle.mc_box.specs.BoxSound.{IsSoundBox, IsWired}
use Rattle.mc_box.specs.Boxes.{BoxState, goal_at, is_slot, media_at, own, box_owes, sender, slot_at, with_goals, with_media, with_slot}
use Rattle.mc_box.specs.EventLaws.{EventSendsFromSlots}
use Rattle.mc_box.specs.Goals.{changed_slots, change_goals}
use Rattle.mc_box.specs.declared.event.Change.{Change}
use Rattle.mc_box.specs.declared.event.Event.{Event}
use Rattle.mc_box.specs.declared.event.Event.TheVariants.{Take, Set, Media, Tell, Retry, Shift}
use Rattle.mc_box.specs.declared.event.MediaChange.{MediaChange}
use Rattle.mc_box.specs.declared.event.MediaChange.TheVariants.{Hear, Talk}
use Rattle.mc_box.specs.declared.limit.TheConstants.{LAST_VERSION}
use Rattle.mc_box.specs.declared.setup.SlotMedia.{SlotMedia}
use Rattle.mc_box.proofs.Changes.{change_wired, slot_inside}
use Rattle.mc_box.proofs.Events.{event_goes, media_wired, taking_is, took_wired}
use Rattle.mc_box.proofs.Folds.{changed_inside, AreInside}
use Rattle.mc_box.proofs.GoalTurns.{end_form, pair_form, turned}
use Rattle.mc_box.proofs.Held.{at_max, at_min}
use Rattle.mc_box.proofs.Options.{else_some, map_some, then_some}
use Rattle.mc_box.proofs.Shifting.{shifted_sound, shifted_wired}

-- each sending has a number below this one
abbrev AreBelow : ℕ → List (ℕ × Signal) → Type 0
AreBelow count sent = All (λ (sending : ℕ × Signal). sending.0 < count) sent

-- one slot sends
own_below : (count local : ℕ) (signals : List Signal) → local < count → AreBelow count (map (pair_of local) signals)
own_below count local signals here = All-map (λ (sending : ℕ × Signal). sending.0 < count) (pair_of local) signals (λ k d inside. here)

-- two linked slots send
number_below : (count low high : ℕ) (sending : Side × Signal) → low < count → high < count → (with_number low high sending).0 < count
number_below count low high (First, signal) below above = below
number_below count low high (Second, signal) below above = above

pair_below : (count low high : ℕ) (l : List (Side × Signal)) → low < count → high < count → AreBelow count (map (with_number low high) l)
pair_below count low high l below above =
    All-map (λ (sending : ℕ × Signal). sending.0 < count) (with_number low high) l (λ k d inside. number_below count low high _ below above)

-- one sending after another
both_below : (count : ℕ) (some more : List (ℕ × Signal)) → AreBelow count some → AreBelow count more → AreBelow count (some ++ more)
both_below count some more one two = All-append (λ (sending : ℕ × Signal). sending.0 < count) some more one two

-- ---- turns

turn_by_below : (goal : SlotGoal) (box : BoxState) (local : ℕ) (cause : Cause) (step : BoxStep) → IsWired box → local < length box.slots → goal_at box local ≡ goal
    → goal_step_by goal box local cause ≡ Some step → AreBelow (length box.slots) step.sent
turn_by_below (End goal) box local cause step wired here is goes =
    subst (λ (s : BoxStep). AreBelow (length box.slots) s.sent) (end_form box local goal cause step goes).is
    (own_below (length box.slots) local (end_turn goal (slot_at box local) (is_push cause) (own box local) (sender box local)) here)
turn_by_below (Link partner) box local cause step wired here is goes =
    let there : partner < length box.slots = (wired.links local partner is).inside in
    let side = closed_side cause (side_of local partner) in
    subst (λ (s : BoxStep). AreBelow (length box.slots) s.sent) (pair_form box (min local partner) (max local partner) side step goes).is
    (pair_below (length box.slots) (min local partner) (max local partner) (link_turn (slot_at box (min local partner)) (slot_at box (max local partner)) side)
    (at_min (λ (k : ℕ). k < length box.slots) local partner here there) (at_max (λ (k : ℕ). k < length box.slots) local partner here there))

-- the turn of a goal
turn_below : (box : BoxState) (local : ℕ) (cause : Cause) (step : BoxStep) → IsWired box → local < length box.slots
    → goal_step box local cause ≡ Some step → AreBelow (length box.slots) step.sent
turn_below box local cause step wired here goes = turn_by_below (goal_at box local) box local cause step wired here refl goes

-- turns one after another
turns_below : (locals : List ℕ) (box : BoxState) (step : BoxStep) (count : ℕ) → IsWired box → length box.slots ≡ count → AreInside count locals
    → goal_steps box locals ≡ Some step → AreBelow count step.sent
turns_below [] box step count wired size inside goes =
    let none : step.sent ≡ [] = cc in
    subst (λ (l : List (ℕ × Signal)). AreBelow count l) (sym none) (All-nil (λ (sending : ℕ × Signal). sending.0 < count))
turns_below (local ∷ locals) box step count wired size inside goes =
    let one = then_some (λ (turn : BoxStep). option_map (sends_first turn.sent) (goal_steps turn.after locals)) (goal_step box local Push) step goes in
    let two = map_some (sends_first one.0.sent) (goal_steps one.0.after locals) step one.2 in
    let here : local < length box.slots = subst (λ (n : ℕ). local < n) (sym size) inside.0 in
    let made = turned box local Push one.0 wired here one.1 in
    let same : length one.0.after.slots ≡ count = ap (λ (b : BoxState). length b.slots) made.is ∙ (made.size ∙ size) in
    subst (λ (s : BoxStep). AreBelow count s.sent) two.2
    (both_below count one.0.sent two.0.sent
    (subst (λ (n : ℕ). AreBelow n one.0.sent) size (turn_below box local Push one.0 wired here one.1))
    (turns_below locals one.0.after two.0 count (subst (λ (b : BoxState). IsWired b) (sym made.is) made.wired) same inside.1 two.1))

-- ---- events

take_below : (box : BoxState) (local : ℕ) (signal : Signal) (step : BoxStep) → IsSoundBox box → local < length box.slots
    → take_step box local signal ≡ Some step → AreBelow (length box.slots) step.sent
take_below box local signal step sound here goes =
    let one = then_some (λ (took : Took). option_map (with_answer local took.answer)
    (goal_step (with_slot box local took.after) local (cause_of signal took.after.state))) (slot_take (slot_at box local) signal) step goes in
    let two = map_some (with_answer local one.0.answer) (goal_step (with_slot box local one.0.after) local (cause_of signal one.0.after.state)) step one.2 in
    let size : length (with_slot box local one.0.after).slots ≡ length box.slots = length-set box.slots local one.0.after in
    subst (λ (s : BoxStep). AreBelow (length box.slots) s.sent) two.2
    (both_below (length box.slots) (map (pair_of local) (answer_signals one.0.answer)) two.0.sent
    (own_below (length box.slots) local (answer_signals one.0.answer) here)
    (subst (λ (n : ℕ). AreBelow n two.0.sent) size
    (turn_below (with_slot box local one.0.after) local (cause_of signal one.0.after.state) two.0
    (took_wired box local signal one.0 sound.wired here one.1) (subst (λ (n : ℕ). local < n) (sym size) here) two.1)))

-- goals change, to any that leave the box wired
goals_below : (box : BoxState) (news : List SlotGoal) (step : BoxStep) → IsSoundBox box → IsWired (with_goals box news) → goals_step box news ≡ Some step
    → AreBelow (length box.slots) step.sent
goals_below box news step sound wired goes =
    turns_below (changed_slots box.goals news) (with_goals box news) step (length box.slots) wired refl
    (changed_inside box.goals news 0 (length box.slots) (omega (arith, sound.wired.whole.goals))) goes

set_below : (box : BoxState) (change : Change) (step : BoxStep) → IsSoundBox box → is_enabled box (Set change) ≡ true → set_step box change ≡ Some step
    → AreBelow (length box.slots) step.sent
set_below box change step sound enabled goes = goals_below box (change_goals box.goals change) step sound (change_wired box change sound.wired enabled) goes

tell_below : (box : BoxState) (word : ℕ) (step : BoxStep) → tell_step box word ≡ Some step → AreBelow (length box.slots) step.sent
tell_below box word step goes =
    let none : step.sent ≡ [] = cc in
    subst (λ (l : List (ℕ × Signal)). AreBelow (length box.slots) l) (sym none) (All-nil (λ (sending : ℕ × Signal). sending.0 < length box.slots))

shift_below : (box : BoxState) (step : BoxStep) → IsSoundBox box → shift_step box ≡ Some step → AreBelow (length box.slots) step.sent
shift_below box step sound goes =
    let one = then_some (shift_by box) (enabled_shift box) step goes in
    goals_below (with_shift box one.0) (shift_goals box one.0) step (shifted_sound box one.0 sound one.1) (shifted_wired box one.0 sound one.1) one.2

changed_below : (box : BoxState) (local : ℕ) (media : SlotMedia) (step : BoxStep) → IsSoundBox box → local < length box.slots
    → goal_step (with_media box local media) local Other ≡ Some step → AreBelow (length box.slots) step.sent
changed_below box local media step sound here goes = turn_below (with_media box local media) local Other step (media_wired box local media sound.wired) here goes

media_below : (change : MediaChange) (box : BoxState) (step : BoxStep) → IsSoundBox box → is_enabled box (Media change) ≡ true → media_step box change ≡ Some step
    → AreBelow (length box.slots) step.sent
media_below (Hear local on) box step sound enabled goes =
    let here = and_parts (is_device box.kind) (is_slot box local) enabled in
    let turns = else_some ((media_at box local).version == LAST_VERSION) (goal_step (with_media box local (with_hearing on (media_at box local))) local Other) step goes in
    changed_below box local (with_hearing on (media_at box local)) step sound (slot_inside box local here.1) turns.1
media_below (Talk local on) box step sound enabled goes =
    let here = and_parts (is_device box.kind) (is_slot box local) enabled in
    changed_below box local (with_talking on (media_at box local)) step sound (slot_inside box local here.1) goes

-- an event that takes nothing
event_below : (event : Event) (box : BoxState) (step : BoxStep) → IsSoundBox box → is_enabled box event ≡ true → event_step box event ≡ Some step
    → AreBelow (length box.slots) step.sent
event_below (Take local) box step sound enabled goes = absurd (cc)
event_below (Set change) box step sound enabled goes = set_below box change step sound enabled goes
event_below (Media change) box step sound enabled goes = media_below change box step sound enabled goes
event_below (Tell word) box step sound enabled goes = tell_below box word step goes
event_below (Retry local) box step sound enabled goes =
    let here = and_parts (is_slot box local) (box_owes box local) enabled in
    turn_below box local Push step sound.wired (slot_inside box local here.0) goes
event_below Shift box step sound enabled goes = shift_below box step sound goes

pub event_sends_from_slots : EventSendsFromSlots
event_sends_from_slots box event None step sound goes =
    let one = event_goes event box step goes in
    event_below event box step sound one.0 one.1
event_sends_from_slots box event (Some signal) step sound goes =
    let one = taking_is event box signal step goes in
    take_below box one.0 signal step sound one.2 one.3
