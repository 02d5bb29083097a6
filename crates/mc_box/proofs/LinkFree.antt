-- Boxes without links: what keeps them so, and what their events do.
use Rattle.std.proofs.Common.{◌≡◌, ◌≢◌, ◌==◌, ℕ, true, false, Some, None, List, [], ◌∷◌, inl, inr, length, refl, ap, sym, ◌∙◌, subst, arith}
use Rattle.std.specs.Option.{option_map}
use Rattle.std.proofs.Math.ListN.{get_or}
use Rattle.std.proofs.lemmas.Bool.{cases_eq, cases_lt, eq-eqb, ne_eqb}
use Rattle.std.proofs.lemmas.List.{get_or_past}
use Rattle.mc_signal.specs.declared.Signal.{Signal}
use Rattle.mc_slot.specs.EndTurn.{is_end_goal, cause_of}
use Rattle.mc_slot.specs.Moves.{slot_take, Took}
use Rattle.mc_slot.specs.declared.Cause.{Cause}
use Rattle.mc_slot.specs.declared.Cause.TheVariants.{Other, Push}
use Rattle.mc_slot.specs.declared.Goal.{Goal}
use Rattle.mc_slot.specs.declared.Goal.TheVariants.{Close as ToClose}
use Rattle.mc_slot.specs.declared.SlotGoal.{SlotGoal}
use Rattle.mc_slot.specs.declared.SlotGoal.TheVariants.{End, Link}
use Rattle.mc_box.specs.BoxEvents.{BoxStep, with_answer, sends_first, goal_step, event_step, with_hearing, take_step, goal_step_by, goal_steps}
use Rattle.mc_box.specs.Boxes.{BoxState, media_at, slot_at, goal_at, with_goals, with_media, with_slot}
use Rattle.mc_box.specs.Goals.{changed_slots, goal_after, change_goals, without_link}
use Rattle.mc_box.specs.LinkFree.{is_linking, EventKeepsLinkFree, IsUnlinked}
use Rattle.mc_box.specs.declared.event.Change.TheVariants.{End as NewEnd, Link as NewLink}
use Rattle.mc_box.specs.declared.event.Event.{Event}
use Rattle.mc_box.specs.declared.event.Event.TheVariants.{Take, Set, Media, Tell, Retry, Shift}
use Rattle.mc_box.specs.declared.event.MediaChange.{MediaChange}
use Rattle.mc_box.specs.declared.event.MediaChange.TheVariants.{Hear, Talk}
use Rattle.mc_box.specs.declared.limit.TheConstants.{LAST_VERSION}
use Rattle.mc_box.proofs.Changes.{at_goals_after, length_goals_from}
use Rattle.mc_box.proofs.Events.{event_goes, taking_is}
use Rattle.mc_box.proofs.GoalTurns.{end_form}
use Rattle.mc_box.proofs.Options.{else_some, map_some, then_some}

-- ---- boxes without links

-- each goal that is read is an end's
abbrev AreEnds : List SlotGoal → Type 0
AreEnds goals = (k : ℕ) → is_end_goal (get_or goals k (End ToClose)) ≡ true

-- ---- goals that no event links

turn_by_goals : (goal : SlotGoal) (box : BoxState) (local : ℕ) (cause : Cause) (step : BoxStep) → is_end_goal goal ≡ true
    → goal_step_by goal box local cause ≡ Some step → step.after.goals ≡ box.goals
turn_by_goals (End goal) box local cause step is goes = ap (λ (s : BoxStep). s.after.goals) (sym (end_form box local goal cause step goes).is)
turn_by_goals (Link partner) box local cause step is goes = absurd (cc)

-- a turn leaves the goals as they are
turn_goals : (box : BoxState) (local : ℕ) (cause : Cause) (step : BoxStep) → IsUnlinked box
    → goal_step box local cause ≡ Some step → step.after.goals ≡ box.goals
turn_goals box local cause step free goes = turn_by_goals (goal_at box local) box local cause step (free local) goes

turns_end : (box : BoxState) (step : BoxStep) → record { sent = []; after = box } ≡ step → step.after.goals ≡ box.goals
turns_end box step is = ap (λ (s : BoxStep). s.after.goals) (sym is)

turns_goals : (locals : List ℕ) (box : BoxState) (step : BoxStep) → IsUnlinked box → goal_steps box locals ≡ Some step → step.after.goals ≡ box.goals
turns_goals [] box step free goes = let same : record { sent = []; after = box } ≡ step = cc in turns_end box step same
turns_goals (local ∷ locals) box step free goes =
    let one = then_some (λ (turn : BoxStep). option_map (sends_first turn.sent) (goal_steps turn.after locals)) (goal_step box local Push) step goes in
    let two = map_some (sends_first one.0.sent) (goal_steps one.0.after locals) step one.2 in
    let first : one.0.after.goals ≡ box.goals = turn_goals box local Push one.0 free one.1 in
    ap (λ (s : BoxStep). s.after.goals) (sym two.2)
    ∙ (turns_goals locals one.0.after two.0 (subst (λ (l : List SlotGoal). AreEnds l) (sym first) free) two.1 ∙ first)

parted_same : (goal : SlotGoal) (local : ℕ) → is_end_goal goal ≡ true → without_link local goal ≡ goal
parted_same (End goal) local is = refl
parted_same (Link partner) local is = absurd (cc)

-- ---- an end is set

after_here : (slot : ℕ) (goal : Goal) (old : SlotGoal) → goal_after (NewEnd slot goal) slot old ≡ End goal
after_here slot goal old = let test : (slot == slot) ≡ true = eq-eqb slot slot refl in rw test refl

after_else : (slot local : ℕ) (goal : Goal) (old : SlotGoal) → local ≢ slot → is_end_goal old ≡ true → goal_after (NewEnd slot goal) local old ≡ old
after_else slot local goal old other is = let test : (local == slot) ≡ false = ne_eqb local slot other in rw test (parted_same old slot is)

-- and all are ends still
set_ends : (goals : List SlotGoal) (slot : ℕ) (goal : Goal) → AreEnds goals → AreEnds (change_goals goals (NewEnd slot goal))
set_ends goals slot goal free k = elim (cases_lt k (length goals)) [
  | inl inside ↦ elim (cases_eq k slot) [
    | inl same ↦
        ap is_end_goal
        (at_goals_after (NewEnd slot goal) goals k inside
        ∙ (ap (λ (j : ℕ). goal_after (NewEnd slot goal) j (get_or goals k (End ToClose))) same ∙ after_here slot goal (get_or goals k (End ToClose))))
    | inr other ↦
        ap is_end_goal (at_goals_after (NewEnd slot goal) goals k inside ∙ after_else slot k goal (get_or goals k (End ToClose)) other (free k)) ∙ free k
  ]
  | inr past ↦
      ap is_end_goal (get_or_past (change_goals goals (NewEnd slot goal)) k (End ToClose) (omega (arith, length_goals_from (NewEnd slot goal) 0 goals)))
]

-- ---- an event keeps a box without links

free_same : (box after : BoxState) → after.goals ≡ box.goals → IsUnlinked box → IsUnlinked after
free_same box after same free = subst (λ (l : List SlotGoal). AreEnds l) (sym same) free

media_free : (change : MediaChange) (box : BoxState) (step : BoxStep) → IsUnlinked box → event_step box (Media change) ≡ Some step → IsUnlinked step.after
media_free (Hear local on) box step free goes =
    let turns = else_some ((media_at box local).version == LAST_VERSION) (goal_step (with_media box local (with_hearing on (media_at box local))) local Other) step goes in
    free_same box step.after (turn_goals (with_media box local (with_hearing on (media_at box local))) local Other step free turns.1) free
media_free (Talk local on) box step free goes =
    free_same box step.after (turn_goals _ local Other step free goes) free

happens_free : (event : Event) (box : BoxState) (step : BoxStep) → IsUnlinked box → is_linking event ≡ false → event_step box event ≡ Some step → IsUnlinked step.after
happens_free (Take local) box step free other goes = absurd (cc)
happens_free (Set (NewEnd local goal)) box step free other goes =
    let ends : AreEnds (change_goals box.goals (NewEnd local goal)) = set_ends box.goals local goal free in
    free_same (with_goals box (change_goals box.goals (NewEnd local goal))) step.after
    (turns_goals (changed_slots box.goals (change_goals box.goals (NewEnd local goal))) (with_goals box (change_goals box.goals (NewEnd local goal))) step ends goes) ends
happens_free (Set (NewLink first second)) box step free other goes = absurd (cc)
happens_free (Media change) box step free other goes = media_free change box step free goes
happens_free (Tell word) box step free other goes =
    let same : record { sent = []; after = record box { told = Some word } } ≡ step = cc in
    free_same box step.after (ap (λ (s : BoxStep). s.after.goals) (sym same)) free
happens_free (Retry local) box step free other goes = free_same box step.after (turn_goals box local Push step free goes) free
happens_free Shift box step free other goes = absurd (cc)

take_free : (box : BoxState) (local : ℕ) (signal : Signal) (step : BoxStep) → IsUnlinked box → take_step box local signal ≡ Some step → IsUnlinked step.after
take_free box local signal step free goes =
    let one = then_some (λ (took : Took). option_map (with_answer local took.answer)
    (goal_step (with_slot box local took.after) local (cause_of signal took.after.state))) (slot_take (slot_at box local) signal) step goes in
    let two = map_some (with_answer local one.0.answer) (goal_step (with_slot box local one.0.after) local (cause_of signal one.0.after.state)) step one.2 in
    free_same box step.after
    (ap (λ (s : BoxStep). s.after.goals) (sym two.2)
    ∙ turn_goals (with_slot box local one.0.after) local (cause_of signal one.0.after.state) two.0 free two.1) free

pub event_keeps_link_free : EventKeepsLinkFree
event_keeps_link_free box event None step free other goes = happens_free event box step free other (event_goes event box step goes).1
event_keeps_link_free box event (Some signal) step free other goes =
    let one = taking_is event box signal step goes in
    take_free box one.0 signal step free one.3
