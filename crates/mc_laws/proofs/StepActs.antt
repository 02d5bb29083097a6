-- Each enabled turn of a sound world is what its box does, slot by slot.
use Rattle.std.proofs.Common.{◌≡◌, ◌≢◌, ◌<◌, ◌⊎◌, inl, inr, nat_lt, ℕ, Option, Some, None, List, [], ◌∷◌, length, drop, refl, ap, sym, ◌∙◌, subst}
use Rattle.std.specs.Option.{option_map, unwrap_or}
use Rattle.std.proofs.Math.ListN.{get_or, set, length-set}
use Rattle.std.proofs.lemmas.Bool.{cases_eq}
use Rattle.std.proofs.lemmas.List.{get_or-set_same, get_or-set_other}
use Rattle.mc_signal.specs.declared.Signal.{Signal}
use Rattle.mc_signal.specs.declared.Tagged.{Tagged}
use Rattle.mc_slot.specs.declared.Slot.{Slot}
use Rattle.mc_box.specs.BoxEvents.{BoxStep, box_event}
use Rattle.mc_box.specs.Acting.{Acted, BoxActs, IsSameMake, sends, sent_by}
use Rattle.mc_box.specs.BoxSound.{IsSoundBox}
use Rattle.mc_box.specs.Boxes.{BoxState, no_box, slot_at}
use Rattle.mc_laws.specs.Sendings.{sent_on}
use Rattle.mc_model.specs.Sound.{IsNumbered, IsSound}
use Rattle.mc_laws.specs.StepLaws.{StepActs}
use Rattle.mc_laws.specs.Stepped.{Stepped}
use Rattle.mc_model.specs.Steps.{after_making, after_pop, step, step_by, take_at}
use Rattle.mc_model.specs.Worlds.{WorldState, box_at, for_tunnel, front, tunnel_of, lane_of, lane_to, list_to, number, place, slot_count, slot_of}
use Rattle.mc_box.specs.declared.event.Event.{Event}
use Rattle.mc_box.specs.declared.event.Event.TheVariants.{Take, Set, Media, Tell, Retry, Shift}
use Rattle.mc_box.specs.declared.event.Turn.{Turn}
use Rattle.mc_box.proofs.EventActs.{event_acts, take_acts}
use Rattle.mc_laws.proofs.LanesKept.{Fronts, front_next, lane_apart, lane_in}
use Rattle.mc_laws.proofs.Numbers.{box_inside, number_is}
use Rattle.mc_laws.proofs.Parts.{part_of, part_other, part_own}
use Rattle.mc_laws.proofs.SentOut.{Sent, list_in, sends_out, sent_served}
use Rattle.mc_box.proofs.Options.{if_some, map_some, then_some}

-- ---- a box's step in its world

acted_by : (a b after last : Slot) (to_a to_b sent parts left rest : List Signal) → b ≡ a → to_b ≡ to_a → parts ≡ sent → last ≡ after → rest ≡ left
    → Acted a to_a sent after left → Acted b to_b parts last rest
acted_by a b after last to_a to_b sent parts left rest one two three four five acted = rw (one, two, three, four, five) acted

-- a slot of a box, by its local number
abbrev pub slot_no : WorldState → ℕ → ℕ → ℕ
slot_no world who local = unwrap_or (number world who local) 0

slot_no_is : (world : WorldState) (who s : ℕ) → IsNumbered world → s < slot_count world → (place world s).0 ≡ who → slot_no world who (place world s).1 ≡ s
slot_no_is world who s numbered inside is =
    ap (λ (o : Option ℕ). unwrap_or o 0) (ap (λ (w : ℕ). number world w (place world s).1) (sym is) ∙ numbered.once s inside)

-- lanes from which at most the front for a slot of one box is gone
pub record Left (world : WorldState) (who : ℕ) (lanes : List (List Tagged)) : Type 0 where
  pub count : length lanes ≡ length world.lanes
  pub rest : (lane : ℕ) → (get_or lanes lane [] ≡ get_or world.lanes lane []) ⊎ (get_or lanes lane [] ≡ drop 1 (get_or world.lanes lane []))
  pub others : (s : ℕ) → s < slot_count world → (place world s).0 ≢ who → list_in world lanes s ≡ list_to world s

-- the world is as its slots have acted, and the box is what its event leaves, which is sound
pub record Turned (world next : WorldState) (who : ℕ) (event : Event) : Type 0 where
  pub stepped : Stepped world next who
  pub signal : Option Signal
  pub step : BoxStep
  pub goes : box_event (box_at world who) event signal ≡ Some step
  pub after : box_at next who ≡ step.after
  pub sound : IsSoundBox (box_at next who)

-- the same, with what each slot has sent, and what is left to it on these lanes
pub record Happened (world next : WorldState) (who : ℕ) (event : Event) (signal : Option Signal) (lanes : List (List Tagged)) : Type 0 where
  pub stepped : Stepped world next who
  pub step : BoxStep
  pub goes : box_event (box_at world who) event signal ≡ Some step
  pub after : box_at next who ≡ step.after
  pub sound : IsSoundBox (box_at next who)
  pub parts : (s : ℕ) → stepped.sent s ≡ part_of who (place world s) step.sent
  pub lefts : (s : ℕ) → stepped.left s ≡ list_in world lanes s

turned_by : (world next : WorldState) (who : ℕ) (event : Event) (signal : Option Signal) (lanes : List (List Tagged)) → Happened world next who event signal lanes → Turned world next who event
turned_by world next who event signal lanes happened =
    record { stepped = happened.stepped; signal = signal; step = happened.step; goes = happened.goes; after = happened.after; sound = happened.sound }

-- what comes to the slots of a box, and what is left there
abbrev pub comes : WorldState → ℕ → List (List Tagged) → ℕ → List Signal
comes world who lanes local = list_in world lanes (slot_no world who local)

-- each slot of the world acts as its box does
slot_acts : (world : WorldState) (who s : ℕ) (step : BoxStep) (lanes : List (List Tagged)) → IsNumbered world → who < length world.boxes → Left world who lanes
    → BoxActs (box_at world who) (comes world who world.lanes) step (comes world who lanes) → s < slot_count world
    → Acted (slot_of world s) (list_to world s) (part_of who (place world s) step.sent) (slot_at (get_or (set world.boxes who step.after) (place world s).0 no_box) (place world s).1) (list_in world lanes s)
slot_acts world who s step lanes numbered below left acts inside = elim (cases_eq (place world s).0 who) [
  | inl is ↦
      let local : ℕ = (place world s).1 in
      let here = slot_no_is world who s numbered inside is in
      acted_by (slot_at (box_at world who) local) (slot_of world s) (slot_at step.after local) (slot_at (get_or (set world.boxes who step.after) (place world s).0 no_box) local)
      (comes world who world.lanes local) (list_to world s) (sent_by local step.sent) (part_of who (place world s) step.sent) (comes world who lanes local) (list_in world lanes s)
      (ap (λ (w : ℕ). slot_at (box_at world w) (place world s).1) is)
      (ap (λ (t : ℕ). list_to world t) (sym here))
      (part_own who (place world s) step.sent is)
      (ap (λ (w : ℕ). slot_at (get_or (set world.boxes who step.after) w no_box) (place world s).1) is
      ∙ ap (λ (b : BoxState). slot_at b (place world s).1) (get_or-set_same world.boxes who step.after no_box below))
      (ap (λ (t : ℕ). list_in world lanes t) (sym here))
      (acts.acted local (subst (λ (w : ℕ). (place world s).1 < length (box_at world w).slots) is (numbered.slots s inside)))
  | inr away ↦
      acted_by (slot_of world s) (slot_of world s) (slot_of world s) (slot_at (get_or (set world.boxes who step.after) (place world s).0 no_box) (place world s).1)
      (list_to world s) (list_to world s) [] (part_of who (place world s) step.sent) (list_to world s) (list_in world lanes s)
      refl refl (part_other who (place world s) step.sent away)
      (ap (λ (b : BoxState). slot_at b (place world s).1) (get_or-set_other world.boxes who (place world s).0 step.after no_box away))
      (left.others s inside away) (sends refl)
]

same_make : (new old : BoxState) → new ≡ old → IsSameMake new old
same_make new old same = rw same (record { alike = record { kind = refl; number = refl; receives = refl; sends = refl; first_version = refl; slots = refl; program = refl }; goals = refl; media = refl; origins = λ k. refl })

make_acts : (boxes : List BoxState) (who box : ℕ) (after : BoxState) → who < length boxes → IsSameMake after (get_or boxes who no_box) → IsSameMake (get_or (set boxes who after) box no_box) (get_or boxes box no_box)
make_acts boxes who box after below make = elim (cases_eq box who) [
  | inl same ↦
      subst (λ (b : ℕ). IsSameMake (get_or (set boxes who after) b no_box) (get_or boxes b no_box)) (sym same)
      (subst (λ (new : BoxState). IsSameMake new (get_or boxes who no_box)) (sym (get_or-set_same boxes who after no_box below)) make)
  | inr other ↦ same_make (get_or (set boxes who after) box no_box) (get_or boxes box no_box) (get_or-set_other boxes who box after no_box other)
]

-- the world after, by its boxes and lanes
made_stepped : (world : WorldState) (who : ℕ) (step : BoxStep) (lanes after : List (List Tagged)) → IsNumbered world → who < length world.boxes → Left world who lanes
    → BoxActs (box_at world who) (comes world who world.lanes) step (comes world who lanes) → Sent world lanes who step.sent after
    → Stepped world (record world { boxes = set world.boxes who step.after; lanes = after }) who
made_stepped world who step lanes after numbered below left acts sent = record {
  sent = λ s. part_of who (place world s) step.sent;
  left = λ s. list_in world lanes s;
  acted = λ s inside. slot_acts world who s step lanes numbered below left acts inside;
  lists = sent.lists;
  still = λ s inside away. (part_other who (place world s) step.sent away, left.others s inside away);
  boxes = λ other apart. get_or-set_other world.boxes who other step.after no_box apart;
  makes = λ box. make_acts world.boxes who box step.after below acts.make;
  count = length-set world.boxes who step.after;
  channels = refl;
  lane_count = sent.count ∙ left.count;
  lanes = λ lane.
      record { left = get_or lanes lane []; more = sent_on world who lane step.sent; rest = left.rest lane; served = sent_served step.sent world who lane; is = sent.grown lane };
}

-- a box that acts makes a step of its world, by whichever of its slots it sends
pub box_happens : (world next : WorldState) (who : ℕ) (event : Event) (signal : Option Signal) (step : BoxStep) (lanes : List (List Tagged)) → IsNumbered world → who < length world.boxes
    → box_event (box_at world who) event signal ≡ Some step → Left world who lanes
    → BoxActs (box_at world who) (comes world who world.lanes) step (comes world who lanes) → after_making (record world { lanes = lanes }) who step ≡ next → Happened world next who event signal lanes
unfolding made_stepped
box_happens world next who event signal step lanes numbered below happens left acts goes =
    let out = sends_out step.sent world (set world.boxes who step.after) lanes who numbered.once (left.count ∙ numbered.lanes) in
    subst (λ (w : WorldState). Happened world w who event signal lanes) (sym out.1 ∙ goes) (record {
      stepped = made_stepped world who step lanes out.0 numbered below left acts out.2;
      step = step;
      goes = happens;
      after = get_or-set_same world.boxes who step.after no_box below;
      sound = subst (λ (b : BoxState). IsSoundBox b) (sym (get_or-set_same world.boxes who step.after no_box below)) acts.sound;
      parts = λ s. refl;
      lefts = λ s. refl;
    })

-- ---- nothing leaves its lane

all_left : (world : WorldState) (who : ℕ) → Left world who world.lanes
all_left world who = record { count = refl; rest = λ lane. inl refl; others = λ s inside away. refl }

-- an event that takes nothing
pub act_happens : (event : Event) (world next : WorldState) (who : ℕ) (step : BoxStep) → IsSound world → who < length world.boxes → box_event (box_at world who) event None ≡ Some step
    → after_making world who step ≡ next → Happened world next who event None world.lanes
act_happens event world next who step sound below goes made_is =
    box_happens world next who event None step world.lanes sound.numbered below goes (all_left world who)
    (event_acts (box_at world who) event step (comes world who world.lanes) (comes world who world.lanes) (sound.boxes who below) goes (λ k inside. refl)) made_is

act_turns : (event : Event) (world next : WorldState) (who : ℕ) (step : BoxStep) → IsSound world → who < length world.boxes → box_event (box_at world who) event None ≡ Some step
    → after_making world who step ≡ next → Turned world next who event
act_turns event world next who step sound below goes made_is = turned_by world next who event None world.lanes (act_happens event world next who step sound below goes made_is)

-- ---- a front leaves its lane

-- these lanes, without the front of the lane to a slot
abbrev pub without : WorldState → ℕ → List (List Tagged)
without world s = set world.lanes (lane_of world s) (drop 1 (lane_to world s))

-- what is left to the slot
pub left_here : (world : WorldState) (s : ℕ) → lane_of world s < length world.lanes → list_in world (without world s) s ≡ for_tunnel (tunnel_of world s).within (drop 1 (lane_to world s))
left_here world s there = ap (for_tunnel (tunnel_of world s).within) (get_or-set_same world.lanes (lane_of world s) (drop 1 (lane_to world s)) [] there)

-- and to each other slot, which may be on the same lane
pub left_else : (world : WorldState) (s t : ℕ) (signal : Signal) → lane_of world s < length world.lanes → s < slot_count world → t < slot_count world → t ≢ s
    → Fronts (tunnel_of world s).within signal (lane_to world s) → list_in world (without world s) t ≡ list_to world t
left_else world s t signal there one two apart fronts = elim (cases_eq (lane_of world t) (lane_of world s)) [
  | inl shared ↦
      ap (λ (k : ℕ). for_tunnel (tunnel_of world t).within (get_or (without world s) k [])) shared
      ∙ (ap (for_tunnel (tunnel_of world t).within) (get_or-set_same world.lanes (lane_of world s) (drop 1 (lane_to world s)) [] there)
      ∙ (fronts.others (tunnel_of world t).within (λ same. apart (lane_apart world t s two one shared same))
      ∙ ap (λ (k : ℕ). for_tunnel (tunnel_of world t).within (get_or world.lanes k [])) (sym shared)))
  | inr away ↦ ap (for_tunnel (tunnel_of world t).within) (get_or-set_other world.lanes (lane_of world s) (lane_of world t) (drop 1 (lane_to world s)) [] away)
]

front_left : (world : WorldState) (who s : ℕ) (signal : Signal) → lane_of world s < length world.lanes → s < slot_count world → (place world s).0 ≡ who
    → Fronts (tunnel_of world s).within signal (lane_to world s) → Left world who (without world s)
front_left world who s signal there inside is fronts = record {
  count = length-set world.lanes (lane_of world s) (drop 1 (lane_to world s));
  rest = λ lane. elim (cases_eq lane (lane_of world s)) [
    | inl same ↦
        inr (subst (λ (k : ℕ). get_or (without world s) k [] ≡ drop 1 (get_or world.lanes k [])) (sym same) (get_or-set_same world.lanes (lane_of world s) (drop 1 (lane_to world s)) [] there))
    | inr other ↦ inl (get_or-set_other world.lanes (lane_of world s) lane (drop 1 (lane_to world s)) [] other)
  ];
  others = λ t within away. left_else world s t signal there inside within (λ same. away (ap (λ (x : ℕ). (place world x).0) same ∙ is)) fronts;
}

-- of the slots of the box, only that one has lost its front
comes_else : (world : WorldState) (who s local k : ℕ) (signal : Signal) → IsNumbered world → who < length world.boxes → lane_of world s < length world.lanes → s < slot_count world
    → (place world s).1 ≡ local → Fronts (tunnel_of world s).within signal (lane_to world s) → k < length (box_at world who).slots → k ≢ local
    → comes world who (without world s) k ≡ comes world who world.lanes k
comes_else world who s local k signal numbered below there inside local_is fronts within apart =
    let found = numbered.all who k below within in
    let number_of : number world who k ≡ Some found.0 = subst (λ (p : ℕ × ℕ). number world p.0 p.1 ≡ Some found.0) found.2 (numbered.once found.0 found.1) in
    let no : slot_no world who k ≡ found.0 = ap (λ (o : Option ℕ). unwrap_or o 0) number_of in
    let other : found.0 ≢ s = λ same. apart (sym (ap (λ (p : ℕ × ℕ). p.1) found.2) ∙ (ap (λ (x : ℕ). (place world x).1) same ∙ local_is)) in
    subst (λ (t : ℕ). list_in world (without world s) t ≡ list_to world t) (sym no) (left_else world s found.0 signal there inside found.1 other fronts)

-- a Take
pub take_happens : (world next : WorldState) (who local s : ℕ) (signal : Signal) (step : BoxStep) → IsSound world → who < length world.boxes → number world who local ≡ Some s → front world s ≡ Some signal
    → box_event (box_at world who) (Take local) (Some signal) ≡ Some step → after_making (after_pop world s) who step ≡ next → Happened world next who (Take local) (Some signal) (without world s)
take_happens world next who local s signal step sound below is first goes made_is =
    let found = number_is world who local s is in
    let there : lane_of world s < length world.lanes = subst (λ (n : ℕ). lane_of world s < n) (sym sound.numbered.lanes) (lane_in world s found.0) in
    let fronts : Fronts (tunnel_of world s).within signal (lane_to world s) = front_next (tunnel_of world s).within signal (lane_to world s) first in
    let no : slot_no world who local ≡ s = ap (λ (o : Option ℕ). unwrap_or o 0) is in
    let first_is : comes world who world.lanes local ≡ signal ∷ comes world who (without world s) local =
    subst (λ (t : ℕ). list_to world t ≡ signal ∷ list_in world (without world s) t) (sym no)
    (fronts.next ∙ ap (λ (l : List Signal). signal ∷ l) (sym (left_here world s there))) in
    box_happens world next who (Take local) (Some signal) step (without world s) sound.numbered below goes (front_left world who s signal there found.0 found.1 fronts)
    (take_acts (box_at world who) local signal step (comes world who world.lanes) (comes world who (without world s)) (sound.boxes who below) goes first_is
    (λ k within apart. comes_else world who s local k signal sound.numbered below there found.0 found.2 fronts within apart)) made_is

take_turns : (world next : WorldState) (who local s : ℕ) (signal : Signal) (step : BoxStep) → IsSound world → who < length world.boxes → number world who local ≡ Some s → front world s ≡ Some signal
    → box_event (box_at world who) (Take local) (Some signal) ≡ Some step → after_making (after_pop world s) who step ≡ next → Turned world next who (Take local)
take_turns world next who local s signal step sound below is first goes made_is =
    turned_by world next who (Take local) (Some signal) (without world s) (take_happens world next who local s signal step sound below is first goes made_is)

-- ---- each turn

event_turns : (event : Event) (world next : WorldState) (who : ℕ) → IsSound world → who < length world.boxes → step_by world who event ≡ Some next → Turned world next who event
event_turns (Take local) world next who sound below goes =
    let one = then_some (take_at world who local) (number world who local) next goes in
    let two = then_some (λ (signal : Signal). option_map (after_making (after_pop world one.0) who) (box_event (box_at world who) (Take local) (Some signal))) (front world one.0) next one.2 in
    let three = map_some (after_making (after_pop world one.0) who) (box_event (box_at world who) (Take local) (Some two.0)) next two.2 in
    take_turns world next who local one.0 two.0 three.0 sound below one.1 two.1 three.1 three.2
event_turns (Set change) world next who sound below goes =
    let one = map_some (after_making world who) (box_event (box_at world who) (Set change) None) next goes in act_turns (Set change) world next who one.0 sound below one.1 one.2
event_turns (Media change) world next who sound below goes =
    let one = map_some (after_making world who) (box_event (box_at world who) (Media change) None) next goes in act_turns (Media change) world next who one.0 sound below one.1 one.2
event_turns (Tell word) world next who sound below goes =
    let one = map_some (after_making world who) (box_event (box_at world who) (Tell word) None) next goes in act_turns (Tell word) world next who one.0 sound below one.1 one.2
event_turns (Retry local) world next who sound below goes =
    let one = map_some (after_making world who) (box_event (box_at world who) (Retry local) None) next goes in act_turns (Retry local) world next who one.0 sound below one.1 one.2
event_turns Shift world next who sound below goes =
    let one = map_some (after_making world who) (box_event (box_at world who) Shift None) next goes in act_turns Shift world next who one.0 sound below one.1 one.2

pub step_turns : (world next : WorldState) (turn : Turn) → IsSound world → step world turn ≡ Some next → Turned world next turn.who turn.event
step_turns world next turn sound goes =
    let one = if_some (nat_lt turn.who (length world.boxes)) (step_by world turn.who turn.event) next goes in
    event_turns turn.event world next turn.who sound (box_inside world turn.who one.0) one.1

pub step_acts : StepActs
step_acts world next turn sound goes = (step_turns world next turn sound goes).stepped

-- ---- a Take, and an event that takes nothing, with what each slot does

-- slot s takes the front of its lane
pub record TakeHappened (world next : WorldState) (s : ℕ) : Type 0 where
  pub inside : s < slot_count world
  pub signal : Signal
  pub fronts : Fronts (tunnel_of world s).within signal (lane_to world s)
  pub happened : Happened world next (place world s).0 (Take (place world s).1) (Some signal) (without world s)

pub take_happened : (world next : WorldState) (who local : ℕ) → IsSound world → step world (record { who = who; event = Take local }) ≡ Some next → (s : ℕ) × TakeHappened world next s
take_happened world next who local sound goes =
    let open_step = if_some (nat_lt who (length world.boxes)) (step_by world who (Take local)) next goes in
    let below = box_inside world who open_step.0 in
    let one = then_some (take_at world who local) (number world who local) next open_step.1 in
    let two = then_some (λ (signal : Signal). option_map (after_making (after_pop world one.0) who) (box_event (box_at world who) (Take local) (Some signal))) (front world one.0) next one.2 in
    let three = map_some (after_making (after_pop world one.0) who) (box_event (box_at world who) (Take local) (Some two.0)) next two.2 in
    let found = number_is world who local one.0 one.1 in (
      one.0,
      record {
        inside = found.0;
        signal = two.0;
        fronts = front_next (tunnel_of world one.0).within two.0 (lane_to world one.0) two.1;
        happened = subst (λ (w : ℕ). Happened world next w (Take (place world one.0).1) (Some two.0) (without world one.0)) (sym found.1)
            (subst (λ (l : ℕ). Happened world next who (Take l) (Some two.0) (without world one.0)) (sym found.2)
            (take_happens world next who local one.0 two.0 three.0 sound below one.1 two.1 three.1 three.2));
      },
    )

pub retry_happened : (world next : WorldState) (who local : ℕ) → IsSound world → step world (record { who = who; event = Retry local }) ≡ Some next
    → (who < length world.boxes) × Happened world next who (Retry local) None world.lanes
retry_happened world next who local sound goes =
    let open_step = if_some (nat_lt who (length world.boxes)) (step_by world who (Retry local)) next goes in
    let below = box_inside world who open_step.0 in
    let one = map_some (after_making world who) (box_event (box_at world who) (Retry local) None) next open_step.1 in
    (below, act_happens (Retry local) world next who one.0 sound below one.1 one.2)
