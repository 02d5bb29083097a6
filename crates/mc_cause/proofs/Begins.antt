-- A turn that takes no close sends one only where it closes of its own accord.
use Rattle.std.proofs.Common.{◌≡◌, ◌<◌, ◌+◌, ◌==◌, ◌&&◌, ◌++◌, ◌⊎◌, inl, inr, if◌then◌else◌, ℕ, suc, Bool, true, false, not, Option, Some, None, List, [], ◌∷◌, length, max, min, get_or, refl, ap, sym, ◌∙◌, subst, arith}
use Rattle.std.specs.Option.{option_map}
use Rattle.std.proofs.lemmas.Bool.{cases_eq}
use Rattle.mc_link.specs.LinkTurn.{closed_side, link_turn, sent_by_first}
use Rattle.mc_link.specs.declared.Side.{Side}
use Rattle.mc_link.specs.declared.Side.TheVariants.{First}
use Rattle.mc_signal.specs.declared.Descriptor.{Descriptor}
use Rattle.mc_signal.specs.declared.Sender.{Sender}
use Rattle.mc_signal.specs.declared.Signal.{Signal}
use Rattle.mc_signal.specs.declared.Signal.TheVariants.{Open, Oack, Close, Closeack, Describe, Select}
use Rattle.mc_slot.specs.EndTurn.{cause_of, end_turn, end_turn_in, is_push, owes}
use Rattle.mc_slot.specs.Moves.{Took, answer_signals, clear, fits_medium, slot_take, slot_take_in}
use Rattle.mc_slot.specs.Outlook.{close_of, closes}
use Rattle.mc_slot.specs.Same.{is_same_slot_goal}
use Rattle.mc_slot.specs.declared.Cause.{Cause}
use Rattle.mc_slot.specs.declared.Cause.TheVariants.{Other, Push}
use Rattle.mc_slot.specs.declared.Goal.{Goal}
use Rattle.mc_slot.specs.declared.Goal.TheVariants.{Open as ToOpen, Close as ToClose, Hold as ToHold}
use Rattle.mc_slot.specs.declared.Slot.{Slot}
use Rattle.mc_slot.specs.declared.SlotGoal.{SlotGoal}
use Rattle.mc_slot.specs.declared.SlotGoal.TheVariants.{End, Link}
use Rattle.mc_slot.specs.declared.State.{State}
use Rattle.mc_slot.specs.declared.State.TheVariants.{Closed, Opening, Opened, Flowing, Closing}
use Rattle.mc_box.specs.Acting.{sent_by}
use Rattle.mc_box.specs.BoxEvents.{BoxStep, box_event, change_media, event_step, goal_step, goal_step_by, goal_steps, is_enabled, sends_first, side_of, with_hearing, with_talking}
use Rattle.mc_box.specs.BoxSound.{IsSoundBox, RestsAt}
use Rattle.mc_box.specs.Boxes.{BoxState, goal_at, media_at, own, sender, slot_at, with_goals, with_media}
use Rattle.mc_box.specs.Goals.{change_goals, changed_from, changed_slots, goal_after, goals_from, has_turn, leads, without_link}
use Rattle.mc_box.specs.declared.event.Change.{Change}
use Rattle.mc_box.specs.declared.event.Change.TheVariants.{End as NewEnd, Link as NewLink}
use Rattle.mc_box.specs.declared.event.Event.{Event}
use Rattle.mc_box.specs.declared.event.Event.TheVariants.{Take, Set, Media, Tell, Retry, Shift}
use Rattle.mc_box.specs.declared.event.MediaChange.TheVariants.{Hear, Talk}
use Rattle.mc_box.specs.declared.limit.TheConstants.{LAST_VERSION}
use Rattle.mc_box.specs.declared.setup.SlotMedia.{SlotMedia}
use Rattle.mc_cause.specs.CauseLaws.{closes_by, gives_close, is_close_goal, is_open}
use Rattle.mc_cause.proofs.Counts.{took_once}
use Rattle.mc_cause.proofs.Quiet.{NoClose, NoneOfBoth, NoneSent, end_none, end_sent, first_none, link_none, none_append, pair_sent, resting_none, second_none}
use Rattle.mc_box.proofs.GoalTurns.{end_form, pair_form}
use Rattle.mc_box.proofs.Options.{else_some, if_some, map_some, then_some}
use Rattle.mc_box.proofs.TakeTurns.{TookBy, retry_turned, take_turned}
use Rattle.mc_slot.proofs.Equal.{slot_goal_refl}
use Rattle.mc_slot_laws.proofs.Walks.{closes-append}

part_by : (here : Bool) (signal : Signal) (rest : List Signal) → close_of signal ≡ 0 → NoClose rest → NoClose (if here then signal ∷ rest else rest)
part_by true signal rest one none = let first : close_of signal ≡ 0 = one in let more : closes rest ≡ 0 = none in omega arith
part_by false signal rest one none = none

-- what one slot sends of what its box sends
part_none : (k : ℕ) (sent : List (ℕ × Signal)) → NoneSent sent → NoClose (sent_by k sent)
part_none k [] none = refl
part_none k (one ∷ rest) none = part_by (one.0 == k) one.1 (sent_by k rest) none.0 (part_none k rest none.1)

-- ---- one goal has its turn

-- an event that takes no close names no slot that a close has closed
abbrev pub NamesNone : Cause → Type 0
NamesNone cause = (side : Side) → closed_side cause side ≡ None

turn_none : (goal : SlotGoal) (box : BoxState) (local : ℕ) (cause : Cause) (step : BoxStep) → NamesNone cause → is_close_goal goal ≡ false → goal_step_by goal box local cause ≡ Some step
    → NoneSent step.sent × (step.after.goals ≡ box.goals)
turn_none (End goal) box local cause step names other goes =
    let form = end_form box local goal cause step goes in (
      subst (λ (s : BoxStep). NoneSent s.sent) form.is
          (end_sent local (end_turn goal (slot_at box local) (is_push cause) (own box local) (sender box local)) (end_none goal (slot_at box local) (is_push cause) (own box local) (sender box local) other)),
      sym (ap (λ (s : BoxStep). s.after.goals) form.is),
    )
turn_none (Link partner) box local cause step names other goes =
    let form = pair_form box (min local partner) (max local partner) (closed_side cause (side_of local partner)) step goes in (
      subst (λ (s : BoxStep). NoneSent s.sent) form.is
          (pair_sent (min local partner) (max local partner) (link_turn (slot_at box (min local partner)) (slot_at box (max local partner)) (closed_side cause (side_of local partner)))
          (link_none (slot_at box (min local partner)) (slot_at box (max local partner)) (closed_side cause (side_of local partner)) (names (side_of local partner)))),
      sym (ap (λ (s : BoxStep). s.after.goals) form.is),
    )

-- ---- several goals have their turns

-- none of these is to close
abbrev pub NoneToClose : List SlotGoal → List ℕ → Type 0
NoneToClose goals [] = Unit {0}
NoneToClose goals (local ∷ locals) = (is_close_goal (get_or goals local (End ToClose)) ≡ false) × NoneToClose goals locals

turns_none : (locals : List ℕ) (box : BoxState) (step : BoxStep) → NoneToClose box.goals locals → goal_steps box locals ≡ Some step → NoneSent step.sent
turns_none [] box step opens goes = let is : record { sent = []; after = box } ≡ step = cc in subst (λ (s : BoxStep). NoneSent s.sent) is tt
turns_none (local ∷ locals) box step opens goes =
    let one = then_some (λ (first : BoxStep). option_map (sends_first first.sent) (goal_steps first.after locals)) (goal_step box local Push) step goes in
    let two = map_some (sends_first one.0.sent) (goal_steps one.0.after locals) step one.2 in
    let first = turn_none (goal_at box local) box local Push one.0 (λ side. refl) opens.0 one.1 in
    subst (λ (s : BoxStep). NoneSent s.sent) two.2
    (none_append one.0.sent two.0.sent first.0
    (turns_none locals one.0.after two.0 (subst (λ (goals : List SlotGoal). NoneToClose goals locals) (sym first.1) opens.1) two.1))

-- ---- which goals change

-- a goal that isn't as it was isn't to close
abbrev ChangesOpen : SlotGoal → SlotGoal → Type 0
ChangesOpen old new = is_same_slot_goal old new ≡ false → is_close_goal new ≡ false

same_open : (goal : SlotGoal) → ChangesOpen goal goal
same_open goal other = absurd (let same = slot_goal_refl goal in cc)

hold_or : (test : Bool) (partner : ℕ) → is_close_goal (if test then End ToHold else Link partner) ≡ false
hold_or true partner = refl
hold_or false partner = refl

unlinked_open : (old : SlotGoal) (local : ℕ) → ChangesOpen old (without_link local old)
unlinked_open (End goal) local = same_open (End goal)
unlinked_open (Link partner) local = λ other. hold_or (partner == local) partner

held_twice : (test : Bool) (partner local : ℕ) → is_close_goal (without_link local (if test then End ToHold else Link partner)) ≡ false
held_twice true partner local = refl
held_twice false partner local = hold_or (partner == local) partner

twice_open : (old : SlotGoal) (first second : ℕ) → ChangesOpen old (without_link first (without_link second old))
twice_open (End goal) first second = same_open (End goal)
twice_open (Link partner) first second = λ other. held_twice (partner == second) partner first

either_open : (test : Bool) (old new other : SlotGoal) → is_close_goal new ≡ false → ChangesOpen old other → ChangesOpen old (if test then new else other)
either_open true old new other opens rest = λ changed. opens
either_open false old new other opens rest = rest

changes_open : (change : Change) (local : ℕ) (old : SlotGoal) → gives_close change ≡ false → ChangesOpen old (goal_after change local old)
changes_open (NewEnd slot goal) local old opens = either_open (local == slot) old (End goal) (without_link slot old) opens (unlinked_open old slot)
changes_open (NewLink first second) local old opens =
    either_open (local == first) old (Link second) (if local == second then Link first else without_link first (without_link second old)) refl
    (either_open (local == second) old (Link first) (without_link first (without_link second old)) refl (twice_open old first second))

-- a goal that has its turn has changed
turn_changed : (old new : SlotGoal) (same lead : Bool) → (not same && lead) ≡ true → same ≡ false
turn_changed old new true lead is = absurd (cc)
turn_changed old new false lead is = refl

more_open : (test : Bool) (all : List SlotGoal) (local : ℕ) (rest : List ℕ) → (test ≡ true → is_close_goal (get_or all local (End ToClose)) ≡ false) → NoneToClose all rest
    → NoneToClose all (if test then local ∷ rest else rest)
more_open true all local rest opens more = (opens refl, more)
more_open false all local rest opens more = more

all_open : (olds : List SlotGoal) (change : Change) (at : ℕ) (all : List SlotGoal) → gives_close change ≡ false
    → ((k j : ℕ) → j ≡ at + k → k < length olds → get_or all j (End ToClose) ≡ get_or (goals_from change at olds) k (End ToClose)) → NoneToClose all (changed_from at olds (goals_from change at olds))
all_open [] change at all opens same = tt
all_open (old ∷ olds) change at all opens same =
    let new : SlotGoal = goal_after change at old in
    let here : get_or all at (End ToClose) ≡ new = same 0 at (omega arith) (omega arith) in
    more_open (has_turn at old new) all at (changed_from (at + 1) olds (goals_from change (at + 1) olds))
    (λ turns. ap is_close_goal here ∙ changes_open change at old opens (turn_changed old new (is_same_slot_goal old new) (leads at new) turns))
    (all_open olds change (at + 1) all opens (λ k j is below. same (suc k) j (omega arith) (omega arith)))

set_none : (box : BoxState) (change : Change) (step : BoxStep) → gives_close change ≡ false → goal_steps (with_goals box (change_goals box.goals change)) (changed_slots box.goals (change_goals box.goals change)) ≡ Some step → NoneSent step.sent
set_none box change step opens goes =
    turns_none (changed_slots box.goals (change_goals box.goals change)) (with_goals box (change_goals box.goals change)) step
    (all_open box.goals change 0 (change_goals box.goals change) opens
    (λ k j is below. ap (λ (n : ℕ). get_or (change_goals box.goals change) n (End ToClose)) (let same : j ≡ k = omega arith in same))) goes

-- ---- media

media_none : (goal : SlotGoal) (box : BoxState) (local : ℕ) (media : SlotMedia) (step : BoxStep) → RestsAt goal box local → goal_step_by goal (with_media box local media) local Other ≡ Some step → NoneSent step.sent
media_none (End goal) box local media step rests goes =
    let new : BoxState = with_media box local media in
    let form = end_form new local goal Other step goes in
    subst (λ (s : BoxStep). NoneSent s.sent) form.is
    (end_sent local (end_turn goal (slot_at new local) false (own new local) (sender new local))
    (resting_none goal (slot_at box local) (own box local) (own new local) (sender box local) (sender new local) false rests))
media_none (Link partner) box local media step rests goes = (turn_none (Link partner) (with_media box local media) local Other step (λ side. refl) refl goes).0

-- ---- an event that takes nothing

retry_goal : (goal : Goal) (slot : Slot) → owes goal slot ≡ true → is_close_goal (End goal) ≡ false
retry_goal ToOpen slot owed = refl
retry_goal ToHold slot owed = refl
retry_goal ToClose slot owed = absurd (cc)

pub event_none : (event : Event) (box : BoxState) (step : BoxStep) (k : ℕ) → IsSoundBox box → closes_by event ≡ false → box_event box event None ≡ Some step → NoClose (sent_by k step.sent)
event_none (Take local) box step k sound opens goes = absurd (let one = if_some (is_enabled box (Take local)) None step goes in cc)
event_none (Set change) box step k sound opens goes = part_none k step.sent (set_none box change step opens (if_some (is_enabled box (Set change)) (event_step box (Set change)) step goes).1)
event_none (Media (Hear local on)) box step k sound opens goes =
    let one = if_some (is_enabled box (Media (Hear local on))) (event_step box (Media (Hear local on))) step goes in
    let two = else_some ((media_at box local).version == LAST_VERSION) (change_media box local (with_hearing on (media_at box local))) step one.1 in
    part_none k step.sent (media_none (goal_at box local) box local (with_hearing on (media_at box local)) step (sound.rests local) two.1)
event_none (Media (Talk local on)) box step k sound opens goes =
    let one = if_some (is_enabled box (Media (Talk local on))) (event_step box (Media (Talk local on))) step goes in
    part_none k step.sent (media_none (goal_at box local) box local (with_talking on (media_at box local)) step (sound.rests local) one.1)
event_none (Tell word) box step k sound opens goes =
    let one = if_some (is_enabled box (Tell word)) (event_step box (Tell word)) step goes in
    let is : record { sent = []; after = record box { told = Some word } } ≡ step = let same = one.1 in cc in
    part_none k step.sent (subst (λ (s : BoxStep). NoneSent s.sent) is tt)
event_none (Retry local) box step k sound opens goes =
    let one = if_some (is_enabled box (Retry local)) (event_step box (Retry local)) step goes in
    let retried = retry_turned box local step goes in
    part_none k step.sent (turn_none (goal_at box local) box local Push step (λ side. refl) (ap is_close_goal retried.aims ∙ retry_goal retried.goal (slot_at box local) retried.owed) one.1).0
event_none Shift box step k sound opens goes = absurd (cc)

-- ---- a Take of another signal than a close

cause_none : (signal : Signal) (state : State) (side : Side) → close_of signal ≡ 0 → closed_side (cause_of signal state) side ≡ None
cause_none Close state side other = absurd (omega arith)
cause_none Closeack Closed side other = refl
cause_none signal state side other = refl

-- an end under close that rests and takes no opens has nothing to close after that
still_none : (state : State) (slot : Slot) (own : Descriptor) (sender : Sender) (pushed : Bool) → (state ≡ Closing) ⊎ (state ≡ Closed) → NoClose (end_turn_in ToClose state slot pushed own sender)
still_none state slot own sender pushed (inl is) = subst (λ (at : State). NoClose (end_turn_in ToClose at slot pushed own sender)) (sym is) refl
still_none state slot own sender pushed (inr is) = subst (λ (at : State). NoClose (end_turn_in ToClose at slot pushed own sender)) (sym is) refl

stays_closing : (slot after : Slot) (answer : Option Signal) (took : Took) → after.state ≡ Closing → record { answer = answer; after = after } ≡ took → (took.after.state ≡ Closing) ⊎ (took.after.state ≡ Closed)
stays_closing slot after answer took at is = inl (ap (λ (t : Took). t.after.state) (sym is) ∙ at)

still_closes : (state : State) (slot : Slot) (signal : Signal) (took : Took) (mine : Descriptor) (me : Sender) → slot.state ≡ state → end_turn_in ToClose state slot false mine me ≡ [] → is_open (Some signal) ≡ false
    → slot_take_in state slot signal ≡ Some took → (took.after.state ≡ Closing) ⊎ (took.after.state ≡ Closed)
still_closes state slot (Open medium d) took mine me at rests other goes = absurd (cc)
still_closes Closing slot (Oack d) took mine me at rests other goes = stays_closing slot slot None took at (cc)
still_closes Closing slot (Describe d) took mine me at rests other goes = stays_closing slot slot None took at (cc)
still_closes Closing slot (Select s) took mine me at rests other goes = stays_closing slot slot None took at (cc)
still_closes Closing slot Close took mine me at rests other goes = stays_closing slot slot (Some Closeack) took at (cc)
still_closes Closing slot Closeack took mine me at rests other goes = let is : record { answer = None; after = clear slot Closed } ≡ took = cc in inr (ap (λ (t : Took). t.after.state) (sym is))
still_closes Closed slot signal took mine me at rests other goes = absurd (cc)
still_closes Opening slot signal took mine me at rests other goes = absurd (cc)
still_closes Opened slot signal took mine me at rests other goes = absurd (cc)
still_closes Flowing slot signal took mine me at rests other goes = absurd (cc)

under_close : (opens : Bool) → (opens && true) ≡ false → opens ≡ false
under_close true is = is
under_close false is = refl

-- what the end sends after its answer
taken_none : (goal : Goal) (slot : Slot) (signal : Signal) (took : Took) (mine : Descriptor) (me : Sender) (pushed : Bool) → end_turn goal slot false mine me ≡ [] → (is_open (Some signal) && is_close_goal (End goal)) ≡ false
    → slot_take slot signal ≡ Some took → NoClose (end_turn goal took.after pushed mine me)
taken_none ToOpen slot signal took mine me pushed rests other goes = end_none ToOpen took.after pushed mine me refl
taken_none ToHold slot signal took mine me pushed rests other goes = end_none ToHold took.after pushed mine me refl
taken_none ToClose slot signal took mine me pushed rests other goes =
    still_none took.after.state took.after mine me pushed
    (still_closes slot.state slot signal took mine me refl rests (under_close (is_open (Some signal)) other) (if_some (fits_medium slot signal) (slot_take_in slot.state slot signal) took goes).1)

pub sum_none : (answer : Option Signal) (signals more : List Signal) → more ≡ answer_signals answer ++ signals → NoClose (answer_signals answer) → NoClose signals → NoClose more
sum_none answer signals more is one two =
    let whole : closes more ≡ closes (answer_signals answer ++ signals) = ap closes is in
    let both : closes (answer_signals answer ++ signals) ≡ closes (answer_signals answer) + closes signals = closes-append (answer_signals answer) signals in
    let first : closes (answer_signals answer) ≡ 0 = one in
    let second : closes signals ≡ 0 = two in
    omega arith

at_slot : (k local : ℕ) (step : BoxStep) → k ≡ local → NoClose (sent_by local step.sent) → NoClose (sent_by k step.sent)
at_slot k local step same none = subst (λ (n : ℕ). NoClose (sent_by n step.sent)) (sym same) none

took_none : (goal : SlotGoal) (box : BoxState) (local : ℕ) (signal : Signal) (step : BoxStep) (k : ℕ) → RestsAt goal box local → close_of signal ≡ 0 → (is_open (Some signal) && is_close_goal goal) ≡ false
    → TookBy goal box local signal step → NoClose (sent_by k step.sent)
took_none (End goal) box local signal step k rests other opens took = elim (cases_eq k local) [
  | inl same ↦
      at_slot k local step same
      (sum_none took.answer (end_turn goal took.middle (is_push (cause_of signal took.middle.state)) (own box local) (sender box local)) (sent_by local step.sent) took.sends
      (took_once (slot_at box local) signal (record { answer = took.answer; after = took.middle }) took.takes).answer
      (taken_none goal (slot_at box local) signal (record { answer = took.answer; after = took.middle }) (own box local) (sender box local) (is_push (cause_of signal took.middle.state)) rests opens took.takes))
  | inr apart ↦ ap closes (took.others k apart).sends
]
took_none (Link partner) box local signal step k rests other opens took =
    let closed : Option Side = closed_side (cause_of signal took.middle.state) First in
    let both : NoneOfBoth (link_turn took.middle (slot_at box partner) (closed_side (cause_of signal took.middle.state) First)) =
    link_none took.middle (slot_at box partner) (closed_side (cause_of signal took.middle.state) First) (cause_none signal took.middle.state First other) in
    elim (cases_eq k local) [
      | inl same ↦
          at_slot k local step same
          (sum_none took.answer (sent_by_first (link_turn took.middle (slot_at box partner) (closed_side (cause_of signal took.middle.state) First))) (sent_by local step.sent) took.sends
          (took_once (slot_at box local) signal (record { answer = took.answer; after = took.middle }) took.takes).answer
          (first_none (link_turn took.middle (slot_at box partner) (closed_side (cause_of signal took.middle.state) First)) both))
      | inr apart ↦ elim (cases_eq k partner) [
        | inl mate ↦
            at_slot k partner step mate
            (ap closes took.partner_sends ∙ second_none (link_turn took.middle (slot_at box partner) (closed_side (cause_of signal took.middle.state) First)) both)
        | inr third ↦ ap closes (took.others k apart third).sends
      ]
    ]

pub take_none : (box : BoxState) (local : ℕ) (signal : Signal) (step : BoxStep) (k : ℕ) → IsSoundBox box → close_of signal ≡ 0 → (is_open (Some signal) && is_close_goal (goal_at box local)) ≡ false
    → box_event box (Take local) (Some signal) ≡ Some step → NoClose (sent_by k step.sent)
take_none box local signal step k sound other opens goes =
    took_none (goal_at box local) box local signal step k (sound.rests local) other opens (take_turned box local signal step sound goes)
