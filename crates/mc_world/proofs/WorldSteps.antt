-- The steps of a world, from what its boxes and lanes do.
use Rattle.std.proofs.Common.{◌≡◌, ℕ, ◌<◌, ◌&&◌, not, Bool, true, false, Option, Some, None, IsSome, [], get_or, length, map, nat_lt, Vec, Result, Ok, Err, OnOk, OnErr, IsFalse, IsTrue, ◌↔◌, refl, ap, sym, subst, ◌∙◌}
use Rattle.std.proofs.Math.ListN.{set}
use Rattle.std.proofs.lemmas.Bool.{and_parts}
use Rattle.std.proofs.lemmas.List.{length-map}
use Rattle.std.specs.declared.alloc.Global.{Global}
use Rattle.std.specs.Option.{option_map}
use Rattle.mc_lane.specs.Queue.{Queue}
use Rattle.mc_signal.specs.declared.Signal.{Signal}
use Rattle.mc_signal.specs.declared.Tagged.{Tagged}
use Rattle.mc_box.specs.BoxEvents.{BoxStep, box_event, is_take, turn_of}
use Rattle.mc_box.specs.Boxes.{BoxState, slot_at}
use Rattle.mc_box.specs.LinkFree.{is_linking}
use Rattle.mc_model.specs.Rings.{IsLeastOnRing}
use Rattle.mc_world.specs.Lanes.{all_sent, signals_of, without_front}
use Rattle.mc_model.specs.Sound.{IsNumbered, IsSound}
use Rattle.mc_model.specs.Steps.{after_making, after_pop, ends_version_at, step, step_by, with_box}
use Rattle.mc_model.specs.Worlds.{WorldState, box_at, front, front_for, all_tunnels, lane_of, number, places, slot_of, tunnel_of}
use Rattle.mc_box.specs.declared.event.Event.{Event}
use Rattle.mc_box.specs.declared.event.Event.TheVariants.{Take, Set, Media, Tell, Retry, Shift}
use Rattle.mc_world.specs.declared.network.World.TheInside.{Inside}
use Rattle.mc_world.specs.declared.topology.Topology.{Topology}
use Rattle.mc_world.specs.declared.waiting.Waiting.{Waiting}
use Rattle.mc_world.specs.StepAnswers.{Answers, CannotHappen, LacksVersion}
use Rattle.mc_world.specs.Waiting.{IsWaiting}
use Rattle.mc_world.specs.declared.network.step.StepFault.{StepFault}
use Rattle.mc_world.specs.declared.network.step.StepFault.TheVariants.{NotEnabled, NoMemory, VersionEnd}
use Rattle.mc_world.specs.Tables.{HasTables, IsTopologyOf, channel_of, world_state}
use Rattle.mc_laws.proofs.Numbers.{number_is}
use Rattle.mc_laws.proofs.StepGoes.{below_test}
use Rattle.mc_laws.proofs.StepKeeps.{step_keeps_sound}
use Rattle.mc_world.proofs.Ringless.{step_makes_none}
use Rattle.mc_world.proofs.TopologyLanes.{sent_out_by}

-- ---- slots and their numbers

-- a number is of a slot that its box has
pub number_inside : (world : WorldState) (who local s : ℕ) → IsNumbered world → number world who local ≡ Some s → local < length (box_at world who).slots
number_inside world who local s numbered is =
    let found = number_is world who local s is in
    let inside = numbered.slots s found.0 in
    rw (found.1, found.2) at inside

-- and of that very slot
pub number_slot : (world : WorldState) (who local s : ℕ) → number world who local ≡ Some s → slot_of world s ≡ slot_at (box_at world who) local
number_slot world who local s is =
    let found = number_is world who local s is in
    rw (found.1, found.2) refl

-- the front of the lane that leads to a slot
pub front_is : (world : WorldState) (s lane tunnel : ℕ) (found : Option Signal) → lane ≡ lane_of world s → tunnel ≡ (tunnel_of world s).within
    → found ≡ front_for tunnel (get_or world.lanes lane []) → found ≡ front world s
front_is world s lane tunnel found leads within is =
    is ∙ (ap (λ (k : ℕ). front_for tunnel (get_or world.lanes k [])) leads ∙ ap (λ (t : ℕ). front_for t (get_or world.lanes (lane_of world s) [])) within)

-- where there is one
pub front_found : (world : WorldState) (s lane tunnel : ℕ) (found : Option Signal) (signal : Signal) → lane ≡ lane_of world s → tunnel ≡ (tunnel_of world s).within
    → found ≡ front_for tunnel (get_or world.lanes lane []) → found ≡ Some signal → front world s ≡ Some signal
front_found world s lane tunnel found signal leads within is some = sym (front_is world s lane tunnel found leads within is) ∙ some

-- ---- a step that is made

-- the world where a box has made its step, and what it sent has gone away by these tables
abbrev pub put : WorldState → Topology → ℕ → BoxStep → WorldState
put world topology who step = record world { boxes = set world.boxes who step.after; lanes = all_sent topology who world.lanes step.sent }

-- a slot takes the front of its lane
pub take_is : (world : WorldState) (topology : Topology) (who local s lane : ℕ) (signal : Signal) (step : BoxStep) → number world who local ≡ Some s → front world s ≡ Some signal
    → box_event (box_at world who) (Take local) (Some signal) ≡ Some step → lane ≡ lane_of world s → topology.places.items ≡ places world → topology.tunnels.items ≡ map channel_of (all_tunnels world)
    → step_by world who (Take local) ≡ Some (record world { boxes = set world.boxes who step.after; lanes = all_sent topology who (without_front world.lanes lane) step.sent })
take_is world topology who local s lane signal step is first goes leads at through =
    rw (is, first, goes, leads) (ap (λ (w : WorldState). Some w) (sent_out_by step.sent (with_box (after_pop world s) who step.after) topology who at through))

pub is_there : {A : Type 0} (o : Option A) → IsSome o → (x : A) × (o ≡ Some x)
is_there None some = absurd (cc)
is_there (Some x) some = (x, refl)

-- ---- an event that takes nothing

pub act_by : (world : WorldState) (who : ℕ) (event : Event) → is_take event ≡ false → step_by world who event ≡ option_map (after_making world who) (box_event (box_at world who) event None)
act_by world who (Take slot) other = absurd (cc)
act_by world who (Set change) other = refl
act_by world who (Media change) other = refl
act_by world who (Tell word) other = refl
act_by world who (Retry slot) other = refl
act_by world who Shift other = refl

pub act_is : (world : WorldState) (topology : Topology) (who : ℕ) (event : Event) (step : BoxStep) → is_take event ≡ false
    → box_event (box_at world who) event None ≡ Some step → topology.places.items ≡ places world → topology.tunnels.items ≡ map channel_of (all_tunnels world)
    → step_by world who event ≡ Some (put world topology who step)
act_is world topology who event step other goes at through =
    rw (act_by world who event other, goes) (ap (λ (w : WorldState). Some w) (sent_out_by step.sent (with_box world who step.after) topology who at through))

-- ---- a world after a step of one of its boxes

is_step : (world next : WorldState) (who : ℕ) (event : Event) → who < length world.boxes → step_by world who event ≡ Some next → step world (turn_of who event) ≡ Some next
is_step world next who event here goes =
    let there : nat_lt who (length world.boxes) ≡ true = below_test who (length world.boxes) here in
    rw there goes

-- it is sound
pub stays_sound : (world next : WorldState) (who : ℕ) (event : Event) → IsSound world → who < length world.boxes → step_by world who event ≡ Some next → IsSound next
stays_sound world next who event sound here goes =
    step_keeps_sound world next (record { who = who; event = event }) sound (is_step world next who event here goes)

-- and without a ring where there was none, unless the step links slots
stays_ringless : (world next : WorldState) (who : ℕ) (event : Event) → IsSound world → who < length world.boxes → is_linking event ≡ false → step_by world who event ≡ Some next
    → IsLeastOnRing world None → IsLeastOnRing next None
stays_ringless world next who event sound here links goes none =
    step_makes_none world next (record { who = who; event = event }) sound links (is_step world next who event here goes) none

-- ---- the world that code leaves

-- where it is remembered still, it was before, and the event links no slots
pub still_remembered : (before after : Bool) (event : Event) → after ≡ (before && not (is_linking event)) → after ≡ true → (before ≡ true) × (is_linking event ≡ false)
still_remembered before after event is remembered =
    let parts = and_parts before (not (is_linking event)) (sym is ∙ remembered) in
    (parts.0, not_true (is_linking event) parts.1)
  where
    not_true : (b : Bool) → not b ≡ true → b ≡ false
    not_true true is = absurd (cc)
    not_true false is = refl

-- it has the tables as before, is sound, since a step of a sound world led to it, and has no ring where that is remembered still
pub step_tables : (inside : Inside) (world : WorldState) (who : ℕ) (event : Event) (boxes : Vec BoxState Global) (lanes : Vec (Queue Tagged) Global) (waiting : Waiting) (scratch : Queue (ℕ × Signal)) (ringless : Bool) → HasTables inside
    → world_state inside ≡ world → who < length world.boxes → length boxes.items ≡ length inside.boxes.items → IsWaiting inside.topology (signals_of lanes.items) waiting → scratch.items ≡ []
    → (ringless ≡ true → (inside.ringless ≡ true) × (is_linking event ≡ false))
    → step_by world who event ≡ Some (world_state (record inside { boxes = boxes; lanes = lanes; waiting = waiting }))
    → HasTables (record inside { boxes = boxes; lanes = lanes; waiting = waiting; scratch = scratch; ringless = ringless })
step_tables inside world who event boxes lanes waiting scratch ringless has view here homes waits none links goes =
    let sound : IsSound world = subst (λ (w : WorldState). IsSound w) view has.sound in
    let next : WorldState = world_state (record inside { boxes = boxes; lanes = lanes; waiting = waiting }) in
    let kept : IsSound next = stays_sound world next who event sound here goes in
    record {
      channels = has.channels;
      topology = subst (λ (n : ℕ). IsTopologyOf inside.topology inside.channels.items n) (sym homes) has.topology;
      lanes = sym (length-map lanes.items (λ (lane : Queue Tagged). lane.items)) ∙ kept.numbered.lanes;
      waiting = waits;
      scratch = none;
      sound = kept;
      ringless = λ remembered.
          let parts = links remembered in
          stays_ringless world next who event sound here parts.1 goes (subst (λ (w : WorldState). IsLeastOnRing w None) view (has.ringless parts.0));
    }

-- ---- what a step answers

none_there : (after : Option WorldState) → after ≡ None → IsSome after → ⊥
none_there None is some = absurd (cc)
none_there (Some next) is some = absurd (cc)

-- by whether the box's event happens, and whether it ends a version
tells_end : (after : Option WorldState) (ends : Bool) (old new : WorldState) (result : Result (Unit {0}) StepFault) → Answers old new after ends result → (result ≡ Err VersionEnd) ↔ ((after ≡ None) × IsTrue ends)
tells_end after ends old new (Ok done) answers = (λ is. absurd (cc), λ lacks. absurd (cc))
tells_end after ends old new (Err NotEnabled) answers = (λ is. absurd (cc), λ lacks. absurd (cc))
tells_end after ends old new (Err (NoMemory e)) answers = (λ is. absurd (cc), λ lacks. absurd (none_there after lacks.0 answers.0))
tells_end after ends old new (Err VersionEnd) answers = (λ is. (answers.0, answers.1), λ lacks. refl)

tells_none : (after : Option WorldState) (ends : Bool) (old new : WorldState) (result : Result (Unit {0}) StepFault) → Answers old new after ends result → (result ≡ Err NotEnabled) ↔ ((after ≡ None) × IsFalse ends)
tells_none after ends old new (Ok done) answers = (λ is. absurd (cc), λ cannot. absurd (cc))
tells_none after ends old new (Err NotEnabled) answers = (λ is. (answers.0, answers.1), λ cannot. refl)
tells_none after ends old new (Err (NoMemory e)) answers = (λ is. absurd (cc), λ cannot. absurd (none_there after cannot.0 answers.0))
tells_none after ends old new (Err VersionEnd) answers = (λ is. absurd (cc), λ cannot. absurd (cc))

-- so of the world's turn, where its box is there
pub answers_ok : (world new : WorldState) (who : ℕ) (event : Event) (result : Result (Unit {0}) StepFault) → who < length world.boxes → Answers world new (step_by world who event) (ends_version_at world who event) result
    → OnOk result (step world (turn_of who event) ≡ Some new)
answers_ok world new who event (Ok done) here answers = is_step world new who event here answers
answers_ok world new who event (Err fault) here answers = tt

pub answers_err : (after : Option WorldState) (ends : Bool) (old new : WorldState) (result : Result (Unit {0}) StepFault) → Answers old new after ends result → OnErr result (new ≡ old)
answers_err after ends old new (Ok done) answers = tt
answers_err after ends old new (Err NotEnabled) answers = answers.2
answers_err after ends old new (Err (NoMemory e)) answers = answers.1
answers_err after ends old new (Err VersionEnd) answers = answers.2

pub answers_end : (world new : WorldState) (who : ℕ) (event : Event) (result : Result (Unit {0}) StepFault) → who < length world.boxes → Answers world new (step_by world who event) (ends_version_at world who event) result
    → (result ≡ Err VersionEnd) ↔ LacksVersion world (turn_of who event)
answers_end world new who event result here answers =
    let there : nat_lt who (length world.boxes) ≡ true = below_test who (length world.boxes) here in
    rw there (tells_end (step_by world who event) (ends_version_at world who event) world new result answers)

pub answers_none : (world new : WorldState) (who : ℕ) (event : Event) (result : Result (Unit {0}) StepFault) → who < length world.boxes → Answers world new (step_by world who event) (ends_version_at world who event) result
    → (result ≡ Err NotEnabled) ↔ CannotHappen world (turn_of who event)
answers_none world new who event result here answers =
    let there : nat_lt who (length world.boxes) ≡ true = below_test who (length world.boxes) here in
    rw there (tells_none (step_by world who event) (ends_version_at world who event) world new result answers)
