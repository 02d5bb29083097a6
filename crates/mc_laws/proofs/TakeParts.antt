-- What a Take of a sound world comes to, slot by slot: the slot that takes, over a link its partner, and the others, which do nothing.
use Rattle.std.proofs.Common.{◌≡◌, ◌≢◌, ◌<◌, inl, inr, ℕ, Option, Some, None, List, [], ◌∷◌, length, ap, sym, ◌∙◌, subst}
use Rattle.std.proofs.lemmas.Bool.{cases_eq}
use Rattle.mc_signal.specs.declared.Signal.{Signal}
use Rattle.mc_signal.specs.declared.Tagged.{Tagged}
use Rattle.mc_slot.specs.declared.SlotGoal.{SlotGoal}
use Rattle.mc_box.specs.Acting.{sent_by}
use Rattle.mc_box.specs.Boxes.{BoxState, goal_at, slot_at}
use Rattle.mc_box.specs.declared.event.Event.{Event}
use Rattle.mc_box.specs.declared.event.Event.TheVariants.{Take, Retry}
use Rattle.mc_box.proofs.TakeTurns.{Idle, Retried, TookBy, retry_turned, take_goals, take_turned}
use Rattle.mc_model.specs.Sound.{IsSound}
use Rattle.mc_model.specs.Steps.{step}
use Rattle.mc_model.specs.Worlds.{WorldState, box_at, goal_of, lane_of, list_to, place, slot_count}
use Rattle.mc_laws.proofs.ActedWorlds.{place_apart}
use Rattle.mc_laws.proofs.LanesKept.{lane_in}
use Rattle.mc_laws.proofs.Parts.{part_other, part_own}
use Rattle.mc_laws.proofs.Reaches.{GoalsStay}
use Rattle.mc_laws.proofs.StepActs.{Happened, TakeHappened, left_else, left_here, retry_happened, without}

-- ---- lists

-- the lane to a slot is there
lane_there : (world : WorldState) (s : ℕ) → IsSound world → s < slot_count world → lane_of world s < length world.lanes
lane_there world s sound inside = subst (λ (n : ℕ). lane_of world s < n) (sym sound.numbered.lanes) (lane_in world s inside)

-- the front goes from the list of the slot
pub first_goes : (world next : WorldState) (s : ℕ) (took : TakeHappened world next s) → IsSound world → list_to world s ≡ took.signal ∷ took.happened.stepped.left s
first_goes world next s took sound =
    took.fronts.next
    ∙ ap (λ (l : List Signal). took.signal ∷ l) (sym (took.happened.lefts s ∙ left_here world s (lane_there world s sound took.inside)))

-- and nothing from any other's
pub others_left : (world next : WorldState) (s t : ℕ) (took : TakeHappened world next s) → IsSound world → t < slot_count world → t ≢ s → took.happened.stepped.left t ≡ list_to world t
others_left world next s t took sound inside apart =
    took.happened.lefts t ∙ left_else world s t took.signal (lane_there world s sound took.inside) took.inside inside apart took.fronts

-- ---- goals

-- boxes with the same goals have the same goal for each slot
same_goals : (new old : BoxState) (local : ℕ) → new.goals ≡ old.goals → goal_at new local ≡ goal_at old local
same_goals new old local is = ap (λ (l : List SlotGoal). goal_at (record old { goals = l }) local) is

-- no goal changes
pub take_goals_stay : (world next : WorldState) (s : ℕ) → TakeHappened world next s → IsSound world → GoalsStay next world
take_goals_stay world next s took sound who local = elim (cases_eq who (place world s).0) [
  | inl is ↦
      let goals = take_goals (box_at world (place world s).0) (place world s).1 took.signal took.happened.step (sound.boxes (place world s).0 (sound.numbered.placed s took.inside)) took.happened.goes in
      subst (λ (w : ℕ). goal_at (box_at next w) local ≡ goal_at (box_at world w) local) (sym is)
      (ap (λ (b : BoxState). goal_at b local) took.happened.after ∙ same_goals took.happened.step.after (box_at world (place world s).0) local goals)
  | inr away ↦ ap (λ (b : BoxState). goal_at b local) (took.happened.stepped.boxes who away)
]

-- ---- slots

-- what the box's Take comes to
pub took_is : (world next : WorldState) (s : ℕ) (took : TakeHappened world next s) → IsSound world
    → TookBy (goal_of world s) (box_at world (place world s).0) (place world s).1 took.signal took.happened.step
took_is world next s took sound =
    take_turned (box_at world (place world s).0) (place world s).1 took.signal took.happened.step (sound.boxes (place world s).0 (sound.numbered.placed s took.inside)) took.happened.goes

-- what a slot of the box sends
pub part_sent : (world next : WorldState) (who t : ℕ) (event : Event) (signal : Option Signal) (lanes : List (List Tagged)) (happened : Happened world next who event signal lanes)
    → (place world t).0 ≡ who → happened.stepped.sent t ≡ sent_by (place world t).1 happened.step.sent
part_sent world next who t event signal lanes happened is = happened.parts t ∙ part_own who (place world t) happened.step.sent is

-- a slot that does nothing, unless it is of the box and one of these
pub part_idle : (world next : WorldState) (who t : ℕ) (event : Event) (signal : Option Signal) (lanes : List (List Tagged)) (happened : Happened world next who event signal lanes)
    → ((place world t).0 ≡ who → Idle (box_at world who) happened.step (place world t).1) → happened.stepped.sent t ≡ []
part_idle world next who t event signal lanes happened idle = elim (cases_eq (place world t).0 who) [
  | inl is ↦ part_sent world next who t event signal lanes happened is ∙ (idle is).sends
  | inr away ↦ happened.parts t ∙ part_other who (place world t) happened.step.sent away
]

-- a slot of another box stays as it was
pub part_stays : (world next : WorldState) (who other local : ℕ) (event : Event) (signal : Option Signal) (lanes : List (List Tagged)) (happened : Happened world next who event signal lanes)
    → (other ≡ who → Idle (box_at world who) happened.step local) → slot_at (box_at next other) local ≡ slot_at (box_at world other) local
part_stays world next who other local event signal lanes happened idle = elim (cases_eq other who) [
  | inl is ↦
      subst (λ (w : ℕ). slot_at (box_at next w) local ≡ slot_at (box_at world w) local) (sym is)
      (ap (λ (b : BoxState). slot_at b local) happened.after ∙ (idle is).stays)
  | inr away ↦ ap (λ (b : BoxState). slot_at b local) (happened.stepped.boxes other away)
]

-- the same at a Take
pub sent_here : (world next : WorldState) (s t : ℕ) (took : TakeHappened world next s) → (place world t).0 ≡ (place world s).0 → took.happened.stepped.sent t ≡ sent_by (place world t).1 took.happened.step.sent
sent_here world next s t took is = part_sent world next (place world s).0 t (Take (place world s).1) (Some took.signal) (without world s) took.happened is

-- a slot that is idle sends nothing
pub idle_sends : (world next : WorldState) (s t : ℕ) (took : TakeHappened world next s)
    → ((place world t).0 ≡ (place world s).0 → Idle (box_at world (place world s).0) took.happened.step (place world t).1) → took.happened.stepped.sent t ≡ []
idle_sends world next s t took idle = part_idle world next (place world s).0 t (Take (place world s).1) (Some took.signal) (without world s) took.happened idle

-- and stays as it was
pub idle_stays : (world next : WorldState) (s who local : ℕ) (took : TakeHappened world next s)
    → (who ≡ (place world s).0 → Idle (box_at world (place world s).0) took.happened.step local) → slot_at (box_at next who) local ≡ slot_at (box_at world who) local
idle_stays world next s who local took idle = part_stays world next (place world s).0 who local (Take (place world s).1) (Some took.signal) (without world s) took.happened idle

-- ---- a retry

-- slot s, an end that is to open and is closed, is pushed
pub record RetryHappened (world next : WorldState) (s : ℕ) : Type 0 where
  pub inside : s < slot_count world
  pub happened : Happened world next (place world s).0 (Retry (place world s).1) None world.lanes
  pub did : Retried (box_at world (place world s).0) (place world s).1 happened.step

-- a Retry is what its slot does
pub retry_is : (world next : WorldState) (who local : ℕ) → IsSound world → step world (record { who = who; event = Retry local }) ≡ Some next
    → (s : ℕ) × (place world s ≡ (who, local)) × RetryHappened world next s
retry_is world next who local sound goes =
    let made = retry_happened world next who local sound goes in
    let did = retry_turned (box_at world who) local made.1.step made.1.goes in
    let found = sound.numbered.all who local made.0 did.inside in
    let happened : Happened world next (place world found.0).0 (Retry (place world found.0).1) None world.lanes =
    subst (λ (p : ℕ × ℕ). Happened world next p.0 (Retry p.1) None world.lanes) (sym found.2) made.1 in (
      found.0,
      found.2,
      record {
        inside = found.1;
        happened = happened;
        did = retry_turned (box_at world (place world found.0).0) (place world found.0).1 happened.step happened.goes;
      },
    )

-- no goal changes
pub retry_goals_stay : (world next : WorldState) (s : ℕ) → RetryHappened world next s → GoalsStay next world
retry_goals_stay world next s retried who local = elim (cases_eq who (place world s).0) [
  | inl is ↦
      subst (λ (w : ℕ). goal_at (box_at next w) local ≡ goal_at (box_at world w) local) (sym is)
      (ap (λ (b : BoxState). goal_at b local) retried.happened.after ∙ same_goals retried.happened.step.after (box_at world (place world s).0) local retried.did.turned.goals)
  | inr away ↦ ap (λ (b : BoxState). goal_at b local) (retried.happened.stepped.boxes who away)
]

-- ---- slots by their numbers

-- another slot of one box has another local number
pub apart_local : (world : WorldState) (s t : ℕ) → IsSound world → s < slot_count world → t < slot_count world → t ≢ s → (place world t).0 ≡ (place world s).0 → (place world t).1 ≢ (place world s).1
apart_local world s t sound inside within apart who local = apart (place_apart world t s sound.numbered within inside who local)
