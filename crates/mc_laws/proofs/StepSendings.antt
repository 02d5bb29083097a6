-- What a turn leaves: its box has made a step, and each lane is what is left on it, and then exactly what the turn appends.
use Rattle.std.proofs.Common.{◌≡◌, ◌<◌, ◌==◌, ◌++◌, inl, inr, if◌then◌else◌, nat_lt, ℕ, Bool, true, false, Option, Some, None, List, [], length, drop, refl, ap, sym, ◌∙◌, subst}
use Rattle.std.specs.Option.{option_and_then, option_map}
use Rattle.std.proofs.Math.ListN.{get_or, set, length-set}
use Rattle.std.proofs.lemmas.Bool.{cases_eq, eq-eqb, ne_eqb}
use Rattle.std.proofs.lemmas.List.{get_or-set_same, get_or-set_other}
use Rattle.mc_signal.specs.declared.Signal.{Signal}
use Rattle.mc_signal.specs.declared.Tagged.{Tagged}
use Rattle.mc_box.specs.BoxEvents.{BoxStep, box_event}
use Rattle.mc_box.specs.declared.event.Event.{Event}
use Rattle.mc_box.specs.declared.event.Event.TheVariants.{Take, Set, Media, Tell, Retry, Shift}
use Rattle.mc_laws.specs.Sendings.{MakesStep, StepAppends, StepIsMade, left_on, sendings, sent_on, taker}
use Rattle.mc_model.specs.Sound.{IsNumbered}
use Rattle.mc_model.specs.Steps.{after_making, after_pop, step_by, take_at}
use Rattle.mc_model.specs.Worlds.{WorldState, box_at, front, lane_of, lane_to, number}
use Rattle.mc_laws.proofs.LanesKept.{lane_in}
use Rattle.mc_laws.proofs.Numbers.{number_is}
use Rattle.mc_laws.proofs.SentOut.{sends_out}
use Rattle.mc_laws.proofs.StepActs.{without}
use Rattle.mc_box.proofs.Options.{if_some, map_some, then_some}

-- what a box has sent stands at the ends of these lanes
made_lanes : (world next : WorldState) (who lane : ℕ) (lanes : List (List Tagged)) (step : BoxStep) → IsNumbered world → length lanes ≡ length world.lanes
    → after_making (record world { lanes = lanes }) who step ≡ next → get_or next.lanes lane [] ≡ get_or lanes lane [] ++ sent_on world who lane step.sent
made_lanes world next who lane lanes step numbered count is =
    let out = sends_out step.sent world (set world.boxes who step.after) lanes who numbered.once (count ∙ numbered.lanes) in
    ap (λ (w : WorldState). get_or w.lanes lane []) (sym is ∙ out.1) ∙ out.2.grown lane

-- and the box is what its step leaves
made_boxes : (world next : WorldState) (who : ℕ) (lanes : List (List Tagged)) (step : BoxStep) → IsNumbered world → length lanes ≡ length world.lanes
    → after_making (record world { lanes = lanes }) who step ≡ next → next.boxes ≡ set world.boxes who step.after
made_boxes world next who lanes step numbered count is =
    let out = sends_out step.sent world (set world.boxes who step.after) lanes who numbered.once (count ∙ numbered.lanes) in
    ap (λ (w : WorldState). w.boxes) (sym is ∙ out.1)

-- ---- an event that takes nothing

act_lanes : (event : Event) (world next : WorldState) (who lane : ℕ) → IsNumbered world → taker world who event ≡ None → option_map (after_making world who) (box_event (box_at world who) event None) ≡ Some next
    → get_or next.lanes lane [] ≡ left_on world lane (taker world who event) ++ sent_on world who lane (sendings world who event)
act_lanes event world next who lane numbered none goes =
    let one = map_some (after_making world who) (box_event (box_at world who) event None) next goes in
    rw (none, one.1) (made_lanes world next who lane world.lanes one.0 numbered refl one.2)

act_made : (event : Event) (world next : WorldState) (who : ℕ) → IsNumbered world → taker world who event ≡ None → option_map (after_making world who) (box_event (box_at world who) event None) ≡ Some next
    → MakesStep world next who event
act_made event world next who numbered none goes =
    let one = map_some (after_making world who) (box_event (box_at world who) event None) next goes in
    record {
      step = one.0;
      is = ap (λ (o : Option ℕ). box_event (box_at world who) event (option_and_then (front world) o)) none ∙ one.1;
      boxes = made_boxes world next who world.lanes one.0 numbered refl one.2;
    }

-- ---- a Take

-- its lane is left without its front
left_by : (here : Bool) (lane : List Tagged) → here ≡ true → drop 1 lane ≡ (if here then drop 1 lane else lane)
left_by true lane is = refl
left_by false lane is = absurd (cc)

-- and another as it is
other_by : (here : Bool) (lane : List Tagged) → here ≡ false → lane ≡ (if here then drop 1 lane else lane)
other_by false lane is = refl
other_by true lane is = absurd (cc)

without_left : (world : WorldState) (s lane : ℕ) → lane_of world s < length world.lanes → get_or (without world s) lane [] ≡ left_on world lane (Some s)
without_left world s lane there = elim (cases_eq lane (lane_of world s)) [
  | inl same ↦
      subst (λ (k : ℕ). get_or (without world s) k [] ≡ drop 1 (get_or world.lanes k [])) (sym same) (get_or-set_same world.lanes (lane_of world s) (drop 1 (lane_to world s)) [] there)
      ∙ left_by (lane_of world s == lane) (get_or world.lanes lane []) (eq-eqb (lane_of world s) lane (sym same))
  | inr other ↦
      get_or-set_other world.lanes (lane_of world s) lane (drop 1 (lane_to world s)) [] other
      ∙ other_by (lane_of world s == lane) (get_or world.lanes lane []) (ne_eqb (lane_of world s) lane (λ same. other (sym same)))
]

take_lanes : (world next : WorldState) (who local lane : ℕ) → IsNumbered world → step_by world who (Take local) ≡ Some next
    → get_or next.lanes lane [] ≡ left_on world lane (taker world who (Take local)) ++ sent_on world who lane (sendings world who (Take local))
take_lanes world next who local lane numbered goes =
    let one = then_some (take_at world who local) (number world who local) next goes in
    let s : ℕ = one.0 in
    let two = then_some (λ (signal : Signal). option_map (after_making (after_pop world one.0) who) (box_event (box_at world who) (Take local) (Some signal))) (front world one.0) next one.2 in
    let three = map_some (after_making (after_pop world one.0) who) (box_event (box_at world who) (Take local) (Some two.0)) next two.2 in
    let there : lane_of world s < length world.lanes = subst (λ (n : ℕ). lane_of world s < n) (sym numbered.lanes) (lane_in world s (number_is world who local s one.1).0) in
    let lanes : get_or next.lanes lane [] ≡ left_on world lane (Some s) ++ sent_on world who lane three.0.sent =
    made_lanes world next who lane (without world s) three.0 numbered (length-set world.lanes (lane_of world s) (drop 1 (lane_to world s))) three.2
    ∙ ap (λ (l : List Tagged). l ++ sent_on world who lane three.0.sent) (without_left world s lane there) in
    rw (one.1, two.1, three.1) lanes

take_step_made : (world next : WorldState) (who local : ℕ) → IsNumbered world → step_by world who (Take local) ≡ Some next → MakesStep world next who (Take local)
take_step_made world next who local numbered goes =
    let one = then_some (take_at world who local) (number world who local) next goes in
    let two = then_some (λ (signal : Signal). option_map (after_making (after_pop world one.0) who) (box_event (box_at world who) (Take local) (Some signal))) (front world one.0) next one.2 in
    let three = map_some (after_making (after_pop world one.0) who) (box_event (box_at world who) (Take local) (Some two.0)) next two.2 in
    let taken : option_and_then (front world) (number world who local) ≡ Some two.0 = ap (λ (o : Option ℕ). option_and_then (front world) o) one.1 ∙ two.1 in
    record {
      step = three.0;
      is = ap (λ (o : Option Signal). box_event (box_at world who) (Take local) o) taken ∙ three.1;
      boxes = made_boxes world next who (without world one.0) three.0 numbered (length-set world.lanes (lane_of world one.0) (drop 1 (lane_to world one.0))) three.2;
    }

-- ---- each turn

event_lanes : (event : Event) (world next : WorldState) (who lane : ℕ) → IsNumbered world → step_by world who event ≡ Some next
    → get_or next.lanes lane [] ≡ left_on world lane (taker world who event) ++ sent_on world who lane (sendings world who event)
event_lanes (Take local) world next who lane numbered goes = take_lanes world next who local lane numbered goes
event_lanes (Set change) world next who lane numbered goes = act_lanes (Set change) world next who lane numbered refl goes
event_lanes (Media change) world next who lane numbered goes = act_lanes (Media change) world next who lane numbered refl goes
event_lanes (Tell word) world next who lane numbered goes = act_lanes (Tell word) world next who lane numbered refl goes
event_lanes (Retry local) world next who lane numbered goes = act_lanes (Retry local) world next who lane numbered refl goes
event_lanes Shift world next who lane numbered goes = act_lanes Shift world next who lane numbered refl goes

pub step_appends : StepAppends
step_appends world next turn lane sound goes =
    let one = if_some (nat_lt turn.who (length world.boxes)) (step_by world turn.who turn.event) next goes in
    event_lanes turn.event world next turn.who lane sound.numbered one.1

event_made : (event : Event) (world next : WorldState) (who : ℕ) → IsNumbered world → step_by world who event ≡ Some next → MakesStep world next who event
event_made (Take local) world next who numbered goes = take_step_made world next who local numbered goes
event_made (Set change) world next who numbered goes = act_made (Set change) world next who numbered refl goes
event_made (Media change) world next who numbered goes = act_made (Media change) world next who numbered refl goes
event_made (Tell word) world next who numbered goes = act_made (Tell word) world next who numbered refl goes
event_made (Retry local) world next who numbered goes = act_made (Retry local) world next who numbered refl goes
event_made Shift world next who numbered goes = act_made Shift world next who numbered refl goes

pub step_is_made : StepIsMade
step_is_made world next turn sound goes =
    let one = if_some (nat_lt turn.who (length world.boxes)) (step_by world turn.who turn.event) next goes in
    event_made turn.event world next turn.who sound.numbered one.1
