-- A step of the world, from what a box has logged: where what it took is at the front of its lane, its event is enabled, and each lane is then what is left of it and what came.
use Rattle.std.proofs.Common.{◌≡◌, ◌≢◌, ◌<◌, ◌*◌, ◌==◌, ◌++◌, if◌then◌else◌, nat_lt, inl, inr, ℕ, Bool, true, false, Option, Some, None, List, [], ◌∷◌, length, drop, append_assoc, refl, ap, sym, ◌∙◌, subst, arith}
use Rattle.std.specs.Option.{option_map, unwrap_or}
use Rattle.std.proofs.Math.ListN.{get_or, set, length-set}
use Rattle.std.proofs.lemmas.Bool.{cases_eq}
use Rattle.std.proofs.lemmas.Grind.{common_steps}
use Rattle.std.proofs.lemmas.List.{append-nil, get_or-set_same, get_or-set_other}
use Rattle.mc_signal.specs.declared.Signal.{Signal}
use Rattle.mc_signal.specs.declared.Tagged.{Tagged}
use Rattle.mc_box.specs.BoxEvents.{BoxStep, box_event, event_step, is_enabled}
use Rattle.mc_box.specs.Boxes.{BoxState}
use Rattle.mc_box.specs.declared.event.Event.{Event}
use Rattle.mc_box.specs.declared.event.Event.TheVariants.{Take}
use Rattle.mc_box.proofs.Options.{if_some, map_some}
use Rattle.mc_laws.specs.Sendings.{sent_on, signal_on}
use Rattle.mc_laws.proofs.ActedWorlds.{far_inside}
use Rattle.mc_laws.proofs.LanesKept.{lane_in}
use Rattle.mc_laws.proofs.Numbers.{number_is}
use Rattle.mc_port.specs.Entries.{signal_in}
use Rattle.mc_port.specs.Tunnels.{event_takes, taken_if, tunnel_if_at}
use Rattle.mc_merge.specs.Lanes.{FitsTunnel, into_box, lane_place}
use Rattle.mc_model.specs.Steps.{after_making, after_pop, after_push, after_sends, step}
use Rattle.mc_model.specs.Worlds.{WorldState, box_at, far, front, front_for, lane_of, number, tunnel_of}

-- ---- one signal

-- what an event of a box takes from a lane
abbrev pub takes_from : WorldState → ℕ → ℕ → Event → Option Tagged → List Tagged
takes_from world lane who event taken = event_takes (into_box world who lane) event taken

-- a signal, where its lane is the one that is asked for
abbrev pub tagged_on : ℕ → Tagged → ℕ → List Tagged
tagged_on lane tagged other = if other == lane then tagged ∷ [] else []

pub tagged_here : (lane : ℕ) (tagged : Tagged) (other : ℕ) → other ≡ lane → tagged_on lane tagged other ≡ tagged ∷ []
tagged_here lane tagged other is = grind (arith, common_steps)

pub tagged_away : (lane : ℕ) (tagged : Tagged) (other : ℕ) → other ≢ lane → tagged_on lane tagged other ≡ []
tagged_away lane tagged other apart = grind (arith, common_steps)

-- a signal comes to the end of a lane
came_at : (lanes : List (List Tagged)) (lane other : ℕ) (tagged : Tagged) → other < length lanes
    → get_or (set lanes other (get_or lanes other [] ++ tagged ∷ [])) lane [] ≡ get_or lanes lane [] ++ tagged_on lane tagged other
came_at lanes lane other tagged inside = elim (cases_eq other lane) [
  | inl same ↦
      ap (λ (k : ℕ). get_or (set lanes other (get_or lanes other [] ++ tagged ∷ [])) k []) (sym same)
      ∙ (get_or-set_same lanes other (get_or lanes other [] ++ tagged ∷ []) [] inside
      ∙ (ap (λ (k : ℕ). get_or lanes k [] ++ tagged ∷ []) same ∙ ap (λ (l : List Tagged). get_or lanes lane [] ++ l) (sym (tagged_here lane tagged other same))))
  | inr away ↦
      get_or-set_other lanes other lane (get_or lanes other [] ++ tagged ∷ []) [] (λ same. away (sym same))
      ∙ sym (ap (λ (l : List Tagged). get_or lanes lane [] ++ l) (tagged_away lane tagged other away) ∙ append-nil (get_or lanes lane []))
]

-- ---- all that is sent

-- where it goes that one of a box's slots sends, if the box has the slot
record FirstCame (world : WorldState) (boxes : List BoxState) (lanes : List (List Tagged)) (signal : Signal) (found : Option ℕ) : Type 0 where
  middle : List (List Tagged)
  is : unwrap_or (option_map (λ s. after_push (record world { boxes = boxes; lanes = lanes }) signal (far s)) found) (record world { boxes = boxes; lanes = lanes }) ≡ record world { boxes = boxes; lanes = middle }
  count : length middle ≡ length lanes
  lists : (lane : ℕ) → get_or middle lane [] ≡ get_or lanes lane [] ++ signal_on world lane signal found

first_came : (found : Option ℕ) (world : WorldState) (boxes : List BoxState) (lanes : List (List Tagged)) (who local : ℕ) (signal : Signal) → length lanes ≡ 2 * length world.channels
    → number world who local ≡ found → FirstCame world boxes lanes signal found
first_came None world boxes lanes who local signal count is = record { middle = lanes; is = refl; count = refl; lists = λ lane. sym (append-nil (get_or lanes lane [])) }
first_came (Some s) world boxes lanes who local signal count is =
    let away = far_inside world s ((number_is world who local s is).0) in
    let inside : lane_of world (far s) < length lanes = subst (λ (n : ℕ). lane_of world (far s) < n) (sym count) (lane_in world (far s) away) in
    let tagged : Tagged = record { tunnel = (tunnel_of world (far s)).within; signal = signal } in
    record {
      middle = set lanes (lane_of world (far s)) (get_or lanes (lane_of world (far s)) [] ++ tagged ∷ []);
      is = refl;
      count = length-set lanes (lane_of world (far s)) (get_or lanes (lane_of world (far s)) [] ++ tagged ∷ []);
      lists = λ lane. came_at lanes lane (lane_of world (far s)) tagged inside;
    }

-- to each lane has come what was sent into it
pub record Came (world : WorldState) (boxes : List BoxState) (lanes : List (List Tagged)) (who : ℕ) (sendings : List (ℕ × Signal)) : Type 0 where
  pub last : List (List Tagged)
  pub is : after_sends (record world { boxes = boxes; lanes = lanes }) who sendings ≡ record world { boxes = boxes; lanes = last }
  pub count : length last ≡ length lanes
  pub lists : (lane : ℕ) → get_or last lane [] ≡ get_or lanes lane [] ++ sent_on world who lane sendings

pub came : (sendings : List (ℕ × Signal)) (world : WorldState) (boxes : List BoxState) (lanes : List (List Tagged)) (who : ℕ) → length lanes ≡ 2 * length world.channels
    → Came world boxes lanes who sendings
came [] world boxes lanes who count = record { last = lanes; is = refl; count = refl; lists = λ lane. sym (append-nil (get_or lanes lane [])) }
came (sending ∷ rest) world boxes lanes who count =
    let one = first_came (number world who sending.0) world boxes lanes who sending.0 sending.1 count refl in
    let two = came rest world boxes one.middle who (one.count ∙ count) in
    record {
      last = two.last;
      is = ap (λ (w : WorldState). after_sends w who rest) one.is ∙ two.is;
      count = two.count ∙ one.count;
      lists = λ lane.
          two.lists lane
          ∙ (ap (λ (l : List Tagged). l ++ sent_on world who lane rest) (one.lists lane)
          ∙ append_assoc (get_or lanes lane []) (signal_on world lane sending.1 (number world who sending.0)) (sent_on world who lane rest));
    }

-- ---- the step

-- the event is a step, after which the box is the one that was logged, and each lane is what was left of it and what came
pub record EventSteps (world : WorldState) (who : ℕ) (event : Event) (sent : List (ℕ × Signal)) (after : BoxState) (left : ℕ → List Tagged) : Type 0 where
  pub lanes : List (List Tagged)
  pub goes : step world (record { who = who; event = event }) ≡ Some (record world { boxes = set world.boxes who after; lanes = lanes })
  pub count : length lanes ≡ length world.lanes
  pub lists : (lane : ℕ) → lane < length world.lanes → get_or lanes lane [] ≡ left lane ++ sent_on world who lane sent

-- what an event that takes nothing does
none_taken : (world : WorldState) (who : ℕ) (event : Event) (sent : List (ℕ × Signal)) (after : BoxState) (left : ℕ → List Tagged) → length world.lanes ≡ 2 * length world.channels
    → step world (record { who = who; event = event }) ≡ Some (after_making world who (record { sent = sent; after = after }))
    → ((lane : ℕ) → lane < length world.lanes → get_or world.lanes lane [] ≡ left lane)
    → EventSteps world who event sent after left
none_taken world who event sent after left count goes stay =
    let all = came sent world (set world.boxes who after) world.lanes who count in
    record {
      lanes = all.last;
      goes = goes ∙ ap (λ (w : WorldState). Some w) all.is;
      count = all.count;
      lists = λ lane inside. all.lists lane ∙ ap (λ (l : List Tagged). l ++ sent_on world who lane sent) (stay lane inside);
    }

front_there : (tunnel : ℕ) (tagged : Tagged) (lane rest : List Tagged) → tunnel ≡ tagged.tunnel → lane ≡ tagged ∷ rest → front_for tunnel lane ≡ Some tagged.signal
front_there tunnel tagged lane rest is fronts = rw fronts (grind (arith, common_steps))

-- what stays of a lane whose front is taken, and of each other
left_at : (lanes : List (List Tagged)) (left : ℕ → List Tagged) (tagged : Tagged) (at lane : ℕ) → at < length lanes → lane < length lanes
    → ((k : ℕ) → k < length lanes → get_or lanes k [] ≡ tagged_on k tagged at ++ left k)
    → get_or (set lanes at (drop 1 (get_or lanes at []))) lane [] ≡ left lane
left_at lanes left tagged at lane inside within fronts = elim (cases_eq at lane) [
  | inl same ↦
      let here : get_or lanes at [] ≡ tagged ∷ left at = fronts at inside ∙ ap (λ (l : List Tagged). l ++ left at) (tagged_here at tagged at refl) in
      ap (λ (k : ℕ). get_or (set lanes at (drop 1 (get_or lanes at []))) k []) (sym same)
      ∙ (get_or-set_same lanes at (drop 1 (get_or lanes at [])) [] inside ∙ (ap (λ (l : List Tagged). drop 1 l) here ∙ ap left same))
  | inr away ↦
      get_or-set_other lanes at lane (drop 1 (get_or lanes at [])) [] (λ same. away (sym same))
      ∙ (fronts lane within ∙ ap (λ (l : List Tagged). l ++ left lane) (tagged_away lane tagged at away))
]

-- a Take of slot s
take_goes : (world : WorldState) (who local s : ℕ) (tagged : Tagged) (turn : BoxStep) → nat_lt who (length world.boxes) ≡ true → number world who local ≡ Some s → front world s ≡ Some tagged.signal
    → box_event (box_at world who) (Take local) (Some tagged.signal) ≡ Some turn → step world (record { who = who; event = Take local }) ≡ Some (after_making (after_pop world s) who turn)
take_goes world who local s tagged turn below numbered fronts goes = rw (below, numbered, fronts, goes) refl

pub taken_by_test : (test : Bool) (tunnel : ℕ) (tagged : Tagged) → taken_if (if test then Some tunnel else None) tagged ≡ (if test then tagged ∷ [] else [])
taken_by_test true tunnel tagged = refl
taken_by_test false tunnel tagged = refl

pub takes_is : (world : WorldState) (who local s lane : ℕ) (tagged : Tagged) → number world who local ≡ Some s → takes_from world lane who (Take local) (Some tagged) ≡ tagged_on lane tagged (lane_of world s)
takes_is world who local s lane tagged numbered =
    ap (λ (o : Option ℕ). taken_if (tunnel_if_at lane (option_map (λ (t : ℕ). lane_place world t) o)) tagged) numbered
    ∙ taken_by_test (lane_of world s == lane) (tunnel_of world s).within tagged

take_steps : (world : WorldState) (who local s : ℕ) (tagged : Tagged) (sent : List (ℕ × Signal)) (after : BoxState) (left : ℕ → List Tagged) → length world.lanes ≡ 2 * length world.channels
    → nat_lt who (length world.boxes) ≡ true → number world who local ≡ Some s → (tunnel_of world s).within ≡ tagged.tunnel
    → box_event (box_at world who) (Take local) (Some tagged.signal) ≡ Some (record { sent = sent; after = after })
    → ((lane : ℕ) → lane < length world.lanes → get_or world.lanes lane [] ≡ tagged_on lane tagged (lane_of world s) ++ left lane)
    → EventSteps world who (Take local) sent after left
take_steps world who local s tagged sent after left count below numbered within goes fronts =
    let found = number_is world who local s numbered in
    let inside : lane_of world s < length world.lanes = subst (λ (n : ℕ). lane_of world s < n) (sym count) (lane_in world s found.0) in
    let here : get_or world.lanes (lane_of world s) [] ≡ tagged ∷ left (lane_of world s) =
    fronts (lane_of world s) inside ∙ ap (λ (l : List Tagged). l ++ left (lane_of world s)) (tagged_here (lane_of world s) tagged (lane_of world s) refl) in
    let is : front world s ≡ Some tagged.signal = front_there (tunnel_of world s).within tagged (get_or world.lanes (lane_of world s) []) (left (lane_of world s)) within here in
    let long : length (set world.lanes (lane_of world s) (drop 1 (get_or world.lanes (lane_of world s) []))) ≡ length world.lanes = length-set world.lanes (lane_of world s) (drop 1 (get_or world.lanes (lane_of world s) [])) in
    let all = came sent world (set world.boxes who after) (set world.lanes (lane_of world s) (drop 1 (get_or world.lanes (lane_of world s) []))) who (long ∙ count) in
    record {
      lanes = all.last;
      goes = take_goes world who local s tagged (record { sent = sent; after = after }) below numbered is goes ∙ ap (λ (w : WorldState). Some w) all.is;
      count = all.count ∙ long;
      lists = λ lane there. all.lists lane ∙ ap (λ (l : List Tagged). l ++ sent_on world who lane sent) (left_at world.lanes left tagged (lane_of world s) lane inside there fronts);
    }

-- an event that takes nothing
other_goes : (world : WorldState) (who : ℕ) (next : Option WorldState) (made_so : WorldState) → nat_lt who (length world.boxes) ≡ true → next ≡ Some made_so
    → (if nat_lt who (length world.boxes) then next else None) ≡ Some made_so
other_goes world who next made_so below goes = rw below goes

pub event_steps : (event : Event) (taken : Option Tagged) (world : WorldState) (who : ℕ) (sent : List (ℕ × Signal)) (after : BoxState) (left : ℕ → List Tagged)
    → length world.lanes ≡ 2 * length world.channels → nat_lt who (length world.boxes) ≡ true
    → box_event (box_at world who) event (signal_in taken) ≡ Some (record { sent = sent; after = after })
    → FitsTunnel world who event taken
    → ((lane : ℕ) → lane < length world.lanes → get_or world.lanes lane [] ≡ takes_from world lane who event taken ++ left lane)
    → EventSteps world who event sent after left
event_steps (Take local) (Some tagged) world who sent after left count below goes fits fronts =
    let found = map_some (λ (s : ℕ). (tunnel_of world s).within) (number world who local) tagged.tunnel fits in
    take_steps world who local found.0 tagged sent after left count below found.1 found.2 goes
    (λ lane inside. fronts lane inside ∙ ap (λ (l : List Tagged). l ++ left lane) (takes_is world who local found.0 lane tagged found.1))
event_steps (Take local) None world who sent after left count below goes fits fronts =
    let none = if_some (is_enabled (box_at world who) (Take local)) (event_step (box_at world who) (Take local)) (record { sent = sent; after = after }) goes in
    absurd (cc)
event_steps event (Some tagged) world who sent after left count below goes fits fronts = absurd (cc)
event_steps event None world who sent after left count below goes fits fronts =
    none_taken world who event sent after left count
    (other_goes world who (option_map (after_making world who) (box_event (box_at world who) event None)) (after_making world who (record { sent = sent; after = after })) below (ap (λ (o : Option BoxStep). option_map (after_making world who) o) goes)) fronts
