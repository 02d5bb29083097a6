-- An event of a box that takes nothing leaves a flowing slot flowing, if the slot is an end that doesn't close after it.
use Rattle.std.proofs.Common.{◌≡◌, ◌≢◌, ◌==◌, ◌<◌, ℕ, true, false, inl, inr, max, min, Option, Some, None, List, [], ◌∷◌, length, refl, ap, sym, ◌∙◌, subst, arith}
use Rattle.std.specs.Option.{option_map}
use Rattle.std.proofs.Math.ListN.{get_or}
use Rattle.std.proofs.lemmas.Bool.{and_parts, cases_eq}
use Rattle.std.proofs.lemmas.List.{get_or-set_same, get_or-set_other}
use Rattle.mc_link.specs.LinkTurn.{closed_side}
use Rattle.mc_rule.specs.declared.Shifted.{Shifted}
use Rattle.mc_signal.specs.declared.Signal.{Signal}
use Rattle.mc_slot.specs.EndTurn.{end_turn, is_push}
use Rattle.mc_slot.specs.declared.Cause.{Cause}
use Rattle.mc_slot.specs.declared.Cause.TheVariants.{Other, Push}
use Rattle.mc_slot.specs.declared.Goal.{Goal}
use Rattle.mc_slot.specs.declared.Goal.TheVariants.{Close as ToClose}
use Rattle.mc_slot.specs.declared.Slot.{Slot}
use Rattle.mc_slot.specs.declared.SlotGoal.{SlotGoal}
use Rattle.mc_slot.specs.declared.SlotGoal.TheVariants.{End, Link}
use Rattle.mc_slot.specs.declared.State.TheVariants.{Flowing}
use Rattle.mc_box.specs.BoxEvents.{BoxStep, box_event, enabled_shift, event_step, goal_step, goal_step_by, goal_steps, goals_step, is_enabled, is_take, media_step, sends_first, set_step, shift_by, shift_goals, shift_step, side_of, tell_step, with_hearing, with_shift, with_talking}
use Rattle.mc_box.specs.BoxShapes.{is_device}
use Rattle.mc_box.specs.BoxSound.{IsSoundBox, IsWired}
use Rattle.mc_box.specs.Boxes.{BoxState, box_owes, goal_at, is_slot, media_at, no_slot, own, sender, slot_at, with_goals, with_media, with_slot}
use Rattle.mc_box.specs.Goals.{change_goals, changed_slots}
use Rattle.mc_box.specs.declared.event.Change.{Change}
use Rattle.mc_box.specs.declared.event.Event.{Event}
use Rattle.mc_box.specs.declared.event.Event.TheVariants.{Take, Set, Media, Tell, Retry, Shift}
use Rattle.mc_box.specs.declared.event.MediaChange.{MediaChange}
use Rattle.mc_box.specs.declared.event.MediaChange.TheVariants.{Hear, Talk}
use Rattle.mc_box.specs.declared.limit.TheConstants.{LAST_VERSION}
use Rattle.mc_box.specs.declared.setup.SlotMedia.{SlotMedia}
use Rattle.mc_box.proofs.Changes.{change_wired, slot_inside}
use Rattle.mc_box.proofs.Events.{event_goes, media_wired, taking_is}
use Rattle.mc_box.proofs.Folds.{AreInside, changed_inside}
use Rattle.mc_box.proofs.GoalTurns.{end_form, pair_else, pair_form, turned}
use Rattle.mc_box.proofs.Held.{at_max, at_min}
use Rattle.mc_box.proofs.Options.{else_some, map_some, then_some}
use Rattle.mc_box.proofs.Shifting.{shifted_sound, shifted_wired}
use Rattle.mc_laws.proofs.BoxStays.{set_stays, shift_made, turn_stays}
use Rattle.mc_path_laws.proofs.CleanEnds.{due_ends_none}
use Rattle.mc_program_laws.specs.Held.{stays_open}
use Rattle.mc_program_laws.proofs.HeldSlots.{all_flow}

-- ---- one turn

-- an end that doesn't close
open_holds : (goal : SlotGoal) (aims : Goal) → stays_open goal ≡ true → goal ≡ End aims → aims ≢ ToClose
open_holds goal aims holds_open is closes =
    let shut : stays_open (End ToClose) ≡ true = subst (λ (g : SlotGoal). stays_open g ≡ true) (is ∙ ap (λ (g : Goal). End g) closes) holds_open in
    absurd (cc)

-- is no link
pub open_unlinked : (goal : SlotGoal) (partner : ℕ) → stays_open goal ≡ true → goal ≡ Link partner → ⊥
open_unlinked goal partner holds_open is =
    let shut : stays_open (Link partner) ≡ true = subst (λ (g : SlotGoal). stays_open g ≡ true) is holds_open in
    absurd (cc)

-- a flowing slot at such an end, in the turn of a goal
turn_flows_by : (goal : SlotGoal) (box : BoxState) (local k : ℕ) (cause : Cause) (step : BoxStep) → IsWired box → local < length box.slots → goal_at box local ≡ goal
    → goal_step_by goal box local cause ≡ Some step → stays_open (goal_at box k) ≡ true → (slot_at box k).state ≡ Flowing → (slot_at step.after k).state ≡ Flowing
turn_flows_by (End goal) box local k cause step wired inside is goes holds_open flows =
    let form = end_form box local goal cause step goes in
    subst (λ (s : BoxStep). (slot_at s.after k).state ≡ Flowing) form.is
    (elim (cases_eq k local) [
      | inl same ↦
          let holds : goal ≢ ToClose = open_holds (goal_at box local) goal (subst (λ (j : ℕ). stays_open (goal_at box j) ≡ true) same holds_open) is in
          let last : form.last.state ≡ Flowing =
          all_flow (end_turn goal (slot_at box local) (is_push cause) (own box local) (sender box local)) (slot_at box local) form.last
          (subst (λ (j : ℕ). (slot_at box j).state ≡ Flowing) same flows) form.goes (due_ends_none goal (slot_at box local) (is_push cause) (own box local) (sender box local) holds) in
          subst (λ (j : ℕ). (slot_at (with_slot box local form.last) j).state ≡ Flowing) (sym same)
          (subst (λ (s : Slot). s.state ≡ Flowing) (sym (get_or-set_same box.slots local form.last no_slot inside)) last)
      | inr other ↦ subst (λ (s : Slot). s.state ≡ Flowing) (sym (get_or-set_other box.slots local k form.last no_slot other)) flows
    ])
turn_flows_by (Link partner) box local k cause step wired inside is goes holds_open flows =
    let form = pair_form box (min local partner) (max local partner) (closed_side cause (side_of local partner)) step goes in
    let apart : k ≢ local = λ same. open_unlinked (goal_at box k) partner holds_open (ap (goal_at box) same ∙ is) in
    let beyond : k ≢ partner = λ same. open_unlinked (goal_at box k) local holds_open (ap (goal_at box) same ∙ (wired.links local partner is).back) in
    subst (λ (s : BoxStep). (slot_at s.after k).state ≡ Flowing) form.is
    (subst (λ (s : Slot). s.state ≡ Flowing)
    (sym (pair_else box.slots (min local partner) (max local partner) k form.first form.second
    (at_min (λ (j : ℕ). k ≢ j) local partner apart beyond) (at_max (λ (j : ℕ). k ≢ j) local partner apart beyond))) flows)

-- whichever goal has its turn
turn_flows : (box : BoxState) (local k : ℕ) (cause : Cause) (step : BoxStep) → IsWired box → local < length box.slots → goal_step box local cause ≡ Some step
    → stays_open (goal_at box k) ≡ true → (slot_at box k).state ≡ Flowing → (slot_at step.after k).state ≡ Flowing
turn_flows box local k cause step wired inside goes holds_open flows = turn_flows_by (goal_at box local) box local k cause step wired inside refl goes holds_open flows

-- ---- turns one after another

turns_flow : (locals : List ℕ) (box : BoxState) (step : BoxStep) (k : ℕ) → IsWired box → AreInside (length box.slots) locals → goal_steps box locals ≡ Some step
    → stays_open (goal_at box k) ≡ true → (slot_at box k).state ≡ Flowing → (slot_at step.after k).state ≡ Flowing
turns_flow [] box step k wired inside goes holds_open flows =
    let same : record { sent = []; after = box } ≡ step = cc in subst (λ (s : BoxStep). (slot_at s.after k).state ≡ Flowing) same flows
turns_flow (local ∷ locals) box step k wired inside goes holds_open flows =
    let one = then_some (λ (turn : BoxStep). option_map (sends_first turn.sent) (goal_steps turn.after locals)) (goal_step box local Push) step goes in
    let two = map_some (sends_first one.0.sent) (goal_steps one.0.after locals) step one.2 in
    let made = turned box local Push one.0 wired inside.0 one.1 in
    let size : length one.0.after.slots ≡ length box.slots = ap (λ (b : BoxState). length b.slots) made.is ∙ made.size in
    subst (λ (s : BoxStep). (slot_at s.after k).state ≡ Flowing) two.2
    (turns_flow locals one.0.after two.0 k (subst (λ (b : BoxState). IsWired b) (sym made.is) made.wired)
    (subst (λ (n : ℕ). AreInside n locals) (sym size) inside.1) two.1
    (subst (λ (b : BoxState). stays_open (goal_at b k) ≡ true) (sym made.is) holds_open)
    (turn_flows box local k Push one.0 wired inside.0 one.1 holds_open flows))

-- an end by the goals of its box
open_by : (news olds : List SlotGoal) (k : ℕ) → news ≡ olds → stays_open (get_or news k (End ToClose)) ≡ true → stays_open (get_or olds k (End ToClose)) ≡ true
open_by news olds k same holds_open = subst (λ (l : List SlotGoal). stays_open (get_or l k (End ToClose)) ≡ true) same holds_open

-- goals change
goals_flow : (box : BoxState) (news : List SlotGoal) (step : BoxStep) (k : ℕ) → IsSoundBox box → IsWired (with_goals box news) → goals_step box news ≡ Some step
    → stays_open (get_or news k (End ToClose)) ≡ true → (slot_at box k).state ≡ Flowing → (slot_at step.after k).state ≡ Flowing
goals_flow box news step k sound wired goes holds_open flows =
    turns_flow (changed_slots box.goals news) (with_goals box news) step k wired
    (changed_inside box.goals news 0 (length box.slots) (omega (arith, sound.wired.whole.goals))) goes holds_open flows

-- ---- events

set_flows : (box : BoxState) (change : Change) (step : BoxStep) (k : ℕ) → IsSoundBox box → is_enabled box (Set change) ≡ true → set_step box change ≡ Some step
    → stays_open (goal_at step.after k) ≡ true → (slot_at box k).state ≡ Flowing → (slot_at step.after k).state ≡ Flowing
set_flows box change step k sound enabled goes holds_open flows =
    goals_flow box (change_goals box.goals change) step k sound (change_wired box change sound.wired enabled) goes
    (open_by step.after.goals (change_goals box.goals change) k (set_stays box change step goes).goals holds_open) flows

shift_flows : (box : BoxState) (step : BoxStep) (k : ℕ) → IsSoundBox box → shift_step box ≡ Some step
    → stays_open (goal_at step.after k) ≡ true → (slot_at box k).state ≡ Flowing → (slot_at step.after k).state ≡ Flowing
shift_flows box step k sound goes holds_open flows =
    let one = then_some (shift_by box) (enabled_shift box) step goes in
    let made = shift_made box step goes in
    let same : made.shift ≡ one.0 = same_shift made.shift one.0 (sym made.goes ∙ one.1) in
    let goals : step.after.goals ≡ shift_goals box one.0 = made.stays.goals ∙ ap (shift_goals box) same in
    goals_flow (with_shift box one.0) (shift_goals box one.0) step k (shifted_sound box one.0 sound one.1) (shifted_wired box one.0 sound one.1) one.2
    (open_by step.after.goals (shift_goals box one.0) k goals holds_open) flows
  where
    same_shift : (p q : Shifted) → Some p ≡ Some q → p ≡ q
    same_shift p q is = cc

changed_flows : (box : BoxState) (local : ℕ) (media : SlotMedia) (step : BoxStep) (k : ℕ) → IsSoundBox box → local < length box.slots
    → goal_step (with_media box local media) local Other ≡ Some step
    → stays_open (goal_at step.after k) ≡ true → (slot_at box k).state ≡ Flowing → (slot_at step.after k).state ≡ Flowing
changed_flows box local media step k sound inside goes holds_open flows =
    turn_flows (with_media box local media) local k Other step (media_wired box local media sound.wired) inside goes
    (open_by step.after.goals box.goals k (turn_stays (with_media box local media) local Other step goes).goals holds_open) flows

media_flows : (change : MediaChange) (box : BoxState) (step : BoxStep) (k : ℕ) → IsSoundBox box → is_enabled box (Media change) ≡ true → media_step box change ≡ Some step
    → stays_open (goal_at step.after k) ≡ true → (slot_at box k).state ≡ Flowing → (slot_at step.after k).state ≡ Flowing
media_flows (Hear local on) box step k sound enabled goes holds_open flows =
    let here = and_parts (is_device box.kind) (is_slot box local) enabled in
    let turns = else_some ((media_at box local).version == LAST_VERSION) (goal_step (with_media box local (with_hearing on (media_at box local))) local Other) step goes in
    changed_flows box local (with_hearing on (media_at box local)) step k sound (slot_inside box local here.1) turns.1 holds_open flows
media_flows (Talk local on) box step k sound enabled goes holds_open flows =
    let here = and_parts (is_device box.kind) (is_slot box local) enabled in
    changed_flows box local (with_talking on (media_at box local)) step k sound (slot_inside box local here.1) goes holds_open flows

retry_flows : (box : BoxState) (local : ℕ) (step : BoxStep) (k : ℕ) → IsSoundBox box → is_enabled box (Retry local) ≡ true → goal_step box local Push ≡ Some step
    → stays_open (goal_at step.after k) ≡ true → (slot_at box k).state ≡ Flowing → (slot_at step.after k).state ≡ Flowing
retry_flows box local step k sound enabled goes holds_open flows =
    let here = and_parts (is_slot box local) (box_owes box local) enabled in
    turn_flows box local k Push step sound.wired (slot_inside box local here.0) goes
    (open_by step.after.goals box.goals k (turn_stays box local Push step goes).goals holds_open) flows

-- a Tell leaves all slots as they were
tell_slots : (box : BoxState) (word : ℕ) (step : BoxStep) → tell_step box word ≡ Some step → step.after.slots ≡ box.slots
tell_slots box word step goes =
    let same : record { sent = []; after = record box { told = Some word } } ≡ step = cc in
    ap (λ (s : BoxStep). s.after.slots) (sym same)

-- so after it they flow as before
tell_flows : (box : BoxState) (word : ℕ) (step : BoxStep) (k : ℕ) → tell_step box word ≡ Some step → (slot_at box k).state ≡ Flowing → (slot_at step.after k).state ≡ Flowing
tell_flows box word step k goes flows = subst (λ (l : List Slot). (get_or l k no_slot).state ≡ Flowing) (sym (tell_slots box word step goes)) flows

-- whatever the event
event_flows : (event : Event) (box : BoxState) (step : BoxStep) (k : ℕ) → IsSoundBox box → is_enabled box event ≡ true → event_step box event ≡ Some step
    → stays_open (goal_at step.after k) ≡ true → (slot_at box k).state ≡ Flowing → (slot_at step.after k).state ≡ Flowing
event_flows (Take local) box step k sound enabled goes holds_open flows = absurd (cc)
event_flows (Set change) box step k sound enabled goes holds_open flows = set_flows box change step k sound enabled goes holds_open flows
event_flows (Media change) box step k sound enabled goes holds_open flows = media_flows change box step k sound enabled goes holds_open flows
event_flows (Tell word) box step k sound enabled goes holds_open flows = tell_flows box word step k goes flows
event_flows (Retry local) box step k sound enabled goes holds_open flows = retry_flows box local step k sound enabled goes holds_open flows
event_flows Shift box step k sound enabled goes holds_open flows = shift_flows box step k sound goes holds_open flows

-- one that takes nothing
pub act_flows : (event : Event) (box : BoxState) (signal : Option Signal) (step : BoxStep) (k : ℕ) → is_take event ≡ false → IsSoundBox box → box_event box event signal ≡ Some step
    → stays_open (goal_at step.after k) ≡ true → (slot_at box k).state ≡ Flowing → (slot_at step.after k).state ≡ Flowing
act_flows event box None step k untaken sound goes holds_open flows =
    let one = event_goes event box step goes in
    event_flows event box step k sound one.0 one.1 holds_open flows
act_flows event box (Some signal) step k untaken sound goes holds_open flows =
    let one = taking_is event box signal step goes in
    let takes : is_take event ≡ true = ap is_take one.1 in
    absurd (cc)

-- a Tell, which takes nothing
pub told_flows : (box : BoxState) (word : ℕ) (signal : Option Signal) (step : BoxStep) (k : ℕ) → box_event box (Tell word) signal ≡ Some step
    → (slot_at box k).state ≡ Flowing → (slot_at step.after k).state ≡ Flowing
told_flows box word None step k goes flows = tell_flows box word step k (event_goes (Tell word) box step goes).1 flows
told_flows box word (Some signal) step k goes flows = absurd (cc)
