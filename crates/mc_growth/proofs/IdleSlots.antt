-- A slot that is closed and is to close stays so whatever its box does, but for a taking of its own, a Set on it and a Shift.
use Rattle.std.proofs.Common.{◌≡◌, ◌≢◌, ◌<◌, ◌+◌, ◌==◌, inl, inr, ℕ, zero, suc, Bool, false, Some, None, List, [], ◌∷◌, length, refl, ap, sym, ◌∙◌, subst, arith}
use Rattle.std.proofs.Math.ListN.{get_or}
use Rattle.std.specs.Option.{option_map}
use Rattle.std.proofs.lemmas.Bool.{and_parts, cases_eq}
use Rattle.std.proofs.lemmas.Grind.{common_steps}
use Rattle.mc_signal.specs.declared.Descriptor.{Descriptor}
use Rattle.mc_signal.specs.declared.Sender.{Sender}
use Rattle.mc_signal.specs.declared.Signal.{Signal}
use Rattle.mc_slot.specs.EndTurn.{end_turn, is_push}
use Rattle.mc_slot.specs.Moves.{slot_send_all}
use Rattle.mc_slot.specs.declared.Cause.{Cause}
use Rattle.mc_slot.specs.declared.Cause.TheVariants.{Other, Push}
use Rattle.mc_slot.specs.declared.Goal.{Goal}
use Rattle.mc_slot.specs.declared.Goal.TheVariants.{Close as ToClose}
use Rattle.mc_slot.specs.declared.Slot.{Slot}
use Rattle.mc_slot.specs.declared.SlotGoal.{SlotGoal}
use Rattle.mc_slot.specs.declared.SlotGoal.TheVariants.{End, Link}
use Rattle.mc_slot.specs.declared.State.TheVariants.{Closed}
use Rattle.mc_box.specs.BoxEvents.{BoxStep, box_event, goal_step, goal_step_by, goal_steps, is_shift, sends_first, with_hearing, with_talking}
use Rattle.mc_box.specs.BoxSound.{IsSoundBox, IsWired}
use Rattle.mc_box.specs.BoxShapes.{is_device}
use Rattle.mc_box.specs.Boxes.{BoxState, goal_at, is_slot, media_at, own, sender, slot_at, with_goals, with_media}
use Rattle.mc_box.specs.Goals.{change_goals, changed_slots, goal_after, goals_from}
use Rattle.mc_box.specs.declared.event.Change.{Change}
use Rattle.mc_box.specs.declared.event.Change.TheVariants.{End as NewEnd, Link as NewLink}
use Rattle.mc_box.specs.declared.event.Event.{Event}
use Rattle.mc_box.specs.declared.event.Event.TheVariants.{Take, Set, Media, Tell, Retry, Shift}
use Rattle.mc_box.specs.declared.event.MediaChange.TheVariants.{Hear, Talk}
use Rattle.mc_box.specs.declared.limit.TheConstants.{LAST_VERSION}
use Rattle.mc_box.proofs.Changes.{change_wired}
use Rattle.mc_box.proofs.Events.{event_goes, media_wired}
use Rattle.mc_box.proofs.Folds.{AreInside, changed_inside}
use Rattle.mc_box.proofs.GoalTurns.{turned}
use Rattle.mc_box.proofs.Options.{else_some, map_some, then_some}
use Rattle.mc_box.proofs.TakeTurns.{Idle, TookBy, end_turned, link_turned, take_turned}
use Rattle.mc_laws.proofs.Numbers.{slot_inside}
use Rattle.mc_growth.specs.Outs.{sets_slot}

-- a slot of a box is closed and is to close
pub record IsShut (box : BoxState) (k : ℕ) : Type 0 where
  pub goal : goal_at box k ≡ End ToClose
  pub closed : (slot_at box k).state ≡ Closed

-- ---- one turn

close_sends_none : (slot : Slot) (pushed : Bool) (mine : Descriptor) (me : Sender) → slot.state ≡ Closed → end_turn ToClose slot pushed mine me ≡ []
close_sends_none slot pushed mine me closed = grind arith

none_sent : (slot after : Slot) (signals : List Signal) → signals ≡ [] → slot_send_all slot signals ≡ Some after → after ≡ slot
none_sent slot after signals none goes =
    let same : slot_send_all slot [] ≡ Some after = subst (λ (l : List Signal). slot_send_all slot l ≡ Some after) none goes in
    cc

-- the turn of the slot's own goal
own_turn : (box : BoxState) (k : ℕ) (goal : Goal) (cause : Cause) (turn : BoxStep) → IsShut box k → goal_at box k ≡ End goal → k < length box.slots → goal_step_by (End goal) box k cause ≡ Some turn → Idle box turn k
own_turn box k goal cause turn shut is inside goes =
    let aims : goal ≡ ToClose = same_end goal ToClose (sym is ∙ shut.goal) in
    let made = end_turned box k goal cause turn inside goes in
    let none = ap (λ (g : Goal). end_turn g (slot_at box k) (is_push cause) (own box k) (sender box k)) aims ∙ close_sends_none (slot_at box k) (is_push cause) (own box k) (sender box k) shut.closed in
    record { sends = made.sends ∙ none; stays = none_sent (slot_at box k) (slot_at turn.after k) (end_turn goal (slot_at box k) (is_push cause) (own box k) (sender box k)) none made.goes }
  where
    same_end : (a b : Goal) → End a ≡ End b → a ≡ b
    same_end a b is = cc

turn_idle_by : (goal : SlotGoal) (box : BoxState) (local k : ℕ) (cause : Cause) (turn : BoxStep) → IsWired box → local < length box.slots → goal_at box local ≡ goal → IsShut box k
    → goal_step_by goal box local cause ≡ Some turn → Idle box turn k
turn_idle_by (End goal) box local k cause turn wired inside is shut goes = elim (cases_eq k local) [
  | inl same ↦
      subst (λ (j : ℕ). Idle box turn j) (sym same)
      (own_turn box local goal cause turn (subst (λ (j : ℕ). IsShut box j) same shut) is inside goes)
  | inr other ↦ (end_turned box local goal cause turn inside goes).others k other
]
turn_idle_by (Link partner) box local k cause turn wired inside is shut goes =
    let link = wired.links local partner is in
    let one : k ≢ local = λ same. not_link local (sym (ap (goal_at box) same) ∙ shut.goal) is in
    let two : k ≢ partner = λ same. not_link partner (sym (ap (goal_at box) same) ∙ shut.goal) link.back in
    (link_turned box local partner cause turn link.other inside link.inside goes).others k one two
  where
    not_link : (j : ℕ) {other : ℕ} → goal_at box j ≡ End ToClose → goal_at box j ≡ Link other → ⊥
    not_link j one two = cc

turn_idle : (box : BoxState) (local k : ℕ) (cause : Cause) (turn : BoxStep) → IsWired box → local < length box.slots → IsShut box k → goal_step box local cause ≡ Some turn → Idle box turn k
turn_idle box local k cause turn wired inside shut goes = turn_idle_by (goal_at box local) box local k cause turn wired inside refl shut goes

-- ---- turns one after another

turns_idle : (locals : List ℕ) (box : BoxState) (k : ℕ) (step : BoxStep) → IsWired box → AreInside (length box.slots) locals → IsShut box k → goal_steps box locals ≡ Some step
    → slot_at step.after k ≡ slot_at box k
turns_idle [] box k step wired inside shut goes = let same : record { sent = []; after = box } ≡ step = cc in ap (λ (s : BoxStep). slot_at s.after k) (sym same)
turns_idle (local ∷ locals) box k step wired inside shut goes =
    let one = then_some (λ (turn : BoxStep). option_map (sends_first turn.sent) (goal_steps turn.after locals)) (goal_step box local Push) step goes in
    let two = map_some (sends_first one.0.sent) (goal_steps one.0.after locals) step one.2 in
    let made = turned box local Push one.0 wired inside.0 one.1 in
    let idle = turn_idle box local k Push one.0 wired inside.0 shut one.1 in
    let size = ap (λ (b : BoxState). length b.slots) made.is ∙ made.size in
    ap (λ (s : BoxStep). slot_at s.after k) (sym two.2)
    ∙ (turns_idle locals one.0.after k two.0 (subst IsWired (sym made.is) made.wired) (subst (λ (n : ℕ). AreInside n locals) (sym size) inside.1)
    (record { goal = ap (λ (b : BoxState). goal_at b k) made.is ∙ shut.goal; closed = ap (λ (s : Slot). s.state) idle.stays ∙ shut.closed }) two.1
    ∙ idle.stays)

-- ---- a Set on other slots

end_stays : (change : Change) (k : ℕ) → sets_slot k (Set change) ≡ false → goal_after change k (End ToClose) ≡ End ToClose
end_stays (NewEnd slot goal) k apart = grind (arith, common_steps)
end_stays (NewLink first second) k apart = grind (arith, common_steps)

goal_from : (change : Change) (first k n : ℕ) (goals : List SlotGoal) → first + k ≡ n → sets_slot n (Set change) ≡ false → get_or goals k (End ToClose) ≡ End ToClose
    → get_or (goals_from change first goals) k (End ToClose) ≡ End ToClose
goal_from change first k n [] sum apart is = refl
goal_from change first zero n (goal ∷ goals) sum apart is =
    let same : first ≡ n = omega (arith, sum) in
    ap (goal_after change first) is ∙ end_stays change first (ap (λ (j : ℕ). sets_slot j (Set change)) same ∙ apart)
goal_from change first (suc k) n (goal ∷ goals) sum apart is = goal_from change (first + 1) k n goals (omega (arith, sum)) apart is

pub goal_kept : (box : BoxState) (change : Change) (k : ℕ) → sets_slot k (Set change) ≡ false → goal_at box k ≡ End ToClose → goal_at (with_goals box (change_goals box.goals change)) k ≡ End ToClose
goal_kept box change k apart is = goal_from change 0 k k box.goals (omega arith) apart is

-- ---- events

-- after an event the slot is as it was
event_idle : (event : Event) (box : BoxState) (k : ℕ) (step : BoxStep) → IsSoundBox box → IsShut box k → sets_slot k event ≡ false → is_shift event ≡ false → box_event box event None ≡ Some step
    → slot_at step.after k ≡ slot_at box k
event_idle (Take local) box k step sound shut apart unshifted goes = let one = event_goes (Take local) box step goes in absurd (cc)
event_idle (Set change) box k step sound shut apart unshifted goes =
    let one = event_goes (Set change) box step goes in
    let news = change_goals box.goals change in
    turns_idle (changed_slots box.goals news) (with_goals box news) k step (change_wired box change sound.wired one.0)
    (changed_inside box.goals news 0 (length box.slots) (omega (arith, sound.wired.whole.goals)))
    (record { goal = goal_kept box change k apart shut.goal; closed = shut.closed }) one.1
event_idle (Media (Hear local on)) box k step sound shut apart unshifted goes =
    let one = event_goes (Media (Hear local on)) box step goes in
    let here = and_parts (is_device box.kind) (is_slot box local) one.0 in
    let turns = else_some ((media_at box local).version == LAST_VERSION) (goal_step (with_media box local (with_hearing on (media_at box local))) local Other) step one.1 in
    (turn_idle (with_media box local (with_hearing on (media_at box local))) local k Other step (media_wired box local (with_hearing on (media_at box local)) sound.wired) (slot_inside box local here.1)
    (record { goal = shut.goal; closed = shut.closed }) turns.1).stays
event_idle (Media (Talk local on)) box k step sound shut apart unshifted goes =
    let one = event_goes (Media (Talk local on)) box step goes in
    let here = and_parts (is_device box.kind) (is_slot box local) one.0 in
    (turn_idle (with_media box local (with_talking on (media_at box local))) local k Other step (media_wired box local (with_talking on (media_at box local)) sound.wired) (slot_inside box local here.1)
    (record { goal = shut.goal; closed = shut.closed }) one.1).stays
event_idle (Tell word) box k step sound shut apart unshifted goes =
    let one = event_goes (Tell word) box step goes in
    let same : record { sent = []; after = record box { told = Some word } } ≡ step = cc in
    ap (λ (s : BoxStep). slot_at s.after k) (sym same)
event_idle (Retry local) box k step sound shut apart unshifted goes =
    let one = event_goes (Retry local) box step goes in
    let here = and_parts (is_slot box local) _ one.0 in
    (turn_idle box local k Push step sound.wired (slot_inside box local here.0) shut one.1).stays
event_idle Shift box k step sound shut apart unshifted goes = absurd (cc)

-- and so after a Take of another slot
took_idle : (goal : SlotGoal) (box : BoxState) (local k : ℕ) (signal : Signal) (step : BoxStep) → IsWired box → goal_at box local ≡ goal → IsShut box k → k ≢ local → TookBy goal box local signal step → slot_at step.after k ≡ slot_at box k
took_idle (End goal) box local k signal step wired is shut other took = (took.others k other).stays
took_idle (Link partner) box local k signal step wired is shut other took =
    let link = wired.links local partner is in
    (took.others k other (λ same. not_link partner (sym (ap (goal_at box) same) ∙ shut.goal) link.back)).stays
  where
    not_link : (j : ℕ) {other : ℕ} → goal_at box j ≡ End ToClose → goal_at box j ≡ Link other → ⊥
    not_link j one two = cc

pub take_idle : (box : BoxState) (local k : ℕ) (signal : Signal) (step : BoxStep) → IsSoundBox box → IsShut box k → k ≢ local → box_event box (Take local) (Some signal) ≡ Some step
    → slot_at step.after k ≡ slot_at box k
take_idle box local k signal step sound shut other goes =
    took_idle (goal_at box local) box local k signal step sound.wired refl shut other (take_turned box local signal step sound goes)

pub other_idle : (event : Event) (box : BoxState) (k : ℕ) (step : BoxStep) → IsSoundBox box → IsShut box k → sets_slot k event ≡ false → is_shift event ≡ false → box_event box event None ≡ Some step
    → slot_at step.after k ≡ slot_at box k
other_idle event box k step sound shut apart unshifted goes = event_idle event box k step sound shut apart unshifted goes
