-- What an engine keeps, from event to event.
use Rattle.std.proofs.Common.{inl, inr, ◌≡◌, ◌≢◌, ◌<◌, ◌==◌, if◌then◌else◌, true, false, Bool, ℕ, Option, Some, None, IfNone, IfSome, IsSome, List, [], ◌∷◌, length, map, position, get_or, Vec, refl, ap, sym, ◌∙◌, subst, arith}
use Rattle.std.specs.declared.alloc.Global.{Global}
use Rattle.std.specs.List.{slice_get}
use Rattle.std.specs.Vec.{with_item, with_items}
use Rattle.std.specs.Option.{is_some}
use Rattle.std.proofs.Math.ListN.{set}
use Rattle.std.proofs.lemmas.Bool.{cases_lt}
use Rattle.std.proofs.lemmas.Grind.{common_steps}
use Rattle.std.proofs.lemmas.List.{get_or_read, length-set, set-get_or}
use Rattle.std.proofs.lemmas.Option.{slice_get_past}
use Rattle.mc_lane.specs.Queue.{Queue}
use Rattle.mc_signal.specs.declared.Signal.{Signal}
use Rattle.mc_signal.specs.declared.Tagged.{Tagged}
use Rattle.mc_slot.specs.Moves.{slot_take}
use Rattle.mc_box.specs.BoxEvents.{BoxStep, box_event, is_enabled, is_take, is_version_end}
use Rattle.mc_box.specs.BoxSound.{IsSoundBox}
use Rattle.mc_box.specs.Boxes.{BoxState, no_box, slot_at}
use Rattle.mc_box.specs.declared.event.Event.{Event}
use Rattle.mc_box.specs.declared.event.Event.TheVariants.{Take}
use Rattle.mc_box.proofs.EventActs.{event_acts, take_acts}
use Rattle.mc_box.proofs.EventGoes.{event_goes, take_goes, take_was_lawful}
use Rattle.mc_model.specs.Rings.{IsLeastOnRing}
use Rattle.mc_model.specs.Served.{AllServed, IsFor}
use Rattle.mc_model.specs.Sound.{IsSound}
use Rattle.mc_model.specs.Steps.{step_by}
use Rattle.mc_model.specs.Worlds.{WorldState, all_tunnels, box_at, front, is_place, lane_of, number, places, tunnel_of}
use Rattle.mc_world.specs.Fronts.{NextServed}
use Rattle.mc_world.specs.Lanes.{IsLaid, all_sent, lane_by, numbers_of, signals_of, tunnel_by, without_front}
use Rattle.mc_world.specs.Making.{MakesEvent}
use Rattle.mc_world.specs.Pumping.{WaitsAt}
use Rattle.mc_world.specs.Running.{AllServedBy, AreServed, IsRunning, running_state}
use Rattle.mc_world.specs.Tables.{HasTables, IsTopologyOf, channel_of, world_state}
use Rattle.mc_world.specs.Waiting.{IsWaiting, bit, flag_of, take_waits, waits_by}
use Rattle.mc_world.specs.declared.network.World.TheInside as world
use Rattle.mc_world.specs.declared.network.engine.Engine.TheInside.{Inside}
use Rattle.mc_world.specs.declared.waiting.Waiting.{Waiting}
use Rattle.mc_laws.proofs.Numbers.{found_at}
use Rattle.mc_laws.proofs.Sums.{total_has}
use Rattle.mc_slot_laws.specs.Sums.{total}
use Rattle.mc_world.proofs.PieceTables.{none_past}
use Rattle.mc_world.proofs.LaneChanges.{Lane, refilled}
use Rattle.mc_world.proofs.Serving.{all_served, each_set, front_left, next_served}
use Rattle.mc_world.proofs.Tables.{box_read}
use Rattle.mc_world.proofs.TopologyLanes.{lane_same, tables_laid, tunnel_same}
use Rattle.mc_world.proofs.Waits.{flag_is, numbers_there, waits_same}
use Rattle.mc_world.proofs.WorldSteps.{act_by, act_is, is_there, take_is}

-- ---- a world that is taken for an engine

served_by : (inside : world.Inside) (lane : ℕ) (signals : List Tagged) → HasTables inside → AllServed (world_state inside) lane signals → AllServedBy inside.topology lane signals
served_by inside lane [] has served = tt
served_by inside lane (first ∷ rest) has served =
    let for : IsFor (world_state inside) lane first served.0.0 = served.0.1 in (
      (
        served.0.0,
        record {
          inside = subst (λ (l : List (ℕ × ℕ)). served.0.0 < length l) (sym has.topology.places) for.inside;
          leads = lane_same (world_state inside) inside.topology served.0.0 has.topology.tunnels ∙ for.leads;
          within = tunnel_same (world_state inside) inside.topology served.0.0 has.topology.tunnels ∙ for.within;
        },
      ),
      served_by inside lane rest has served.1,
    )

-- its boxes, channels, lanes and tables as an engine has them
abbrev pub as_engine : world.Inside → Inside
as_engine inside = record { boxes = inside.boxes; channels = inside.channels; lanes = inside.lanes; topology = inside.topology; waiting = inside.waiting; scratch = inside.scratch }

pub world_runs : (inside : world.Inside) → HasTables inside → IsRunning (as_engine inside)
world_runs inside has = record {
  channels = has.channels;
  topology = record { places = has.topology.places; tunnels = has.topology.tunnels; found = has.topology.found; few = has.topology.few; homes = refl };
  lanes = has.lanes;
  laid = tables_laid inside has;
  waiting = has.waiting;
  homes = omega (arith, has.topology.homes);
  slots = λ who here. numbers_there inside who has here;
  served = λ lane. served_by inside lane (get_or (signals_of inside.lanes.items) lane []) has (has.sound.served lane);
  scratch = has.scratch;
}

-- ---- numbers and fronts

-- tables have what the network says of numbers
pub number_by : (inside : Inside) (who local : ℕ) → IsRunning inside → slice_get (numbers_of inside.topology who) local ≡ number (running_state inside) who local
number_by inside who local runs = runs.topology.found who local ∙ ap (position (is_place (who, local))) runs.topology.places

pub lane_at : (inside : Inside) (s : ℕ) → IsRunning inside → lane_by inside.topology s ≡ lane_of (running_state inside) s
lane_at inside s runs = lane_same (running_state inside) inside.topology s runs.topology.tunnels

pub tunnel_at : (inside : Inside) (s : ℕ) → IsRunning inside → tunnel_by inside.topology s ≡ (tunnel_of (running_state inside) s).within
tunnel_at inside s runs = tunnel_same (running_state inside) inside.topology s runs.topology.tunnels

-- a slot with a number is there
pub number_inside : (inside : Inside) (who local s : ℕ) → IsRunning inside → slice_get (numbers_of inside.topology who) local ≡ Some s → s < length inside.topology.places.items
number_inside inside who local s runs is = (found_at inside.topology.places.items who local s (sym (runs.topology.found who local) ∙ is)).0

pub waits_is : (inside : Inside) (s : ℕ) → IsRunning inside → waits_by inside.topology (signals_of inside.lanes.items) s ≡ is_some (front (running_state inside) s)
waits_is inside s runs = waits_same (running_state inside) inside.topology s runs.topology.tunnels

-- ---- an event that is made

here_is : (signal : Signal) (a b : ℕ) → a ≡ b → (if a == b then signal ∷ [] else []) ≡ signal ∷ []
here_is signal a b same = grind (arith, common_steps)

away_is : (signal : Signal) (a b : ℕ) → a ≢ b → [] ≡ (if a == b then signal ∷ [] else [])
away_is signal a b apart = grind (arith, common_steps)

-- a box has as many slots afterwards
pub took_as_many : (box : BoxState) (local : ℕ) (signal : Signal) (step : BoxStep) → IsSoundBox box → box_event box (Take local) (Some signal) ≡ Some step → length step.after.slots ≡ length box.slots
took_as_many box local signal step sound goes =
    (take_acts box local signal step (λ (k : ℕ). if k == local then signal ∷ [] else []) (λ (k : ℕ). []) sound goes (here_is signal local local refl) (λ k below apart. away_is signal k local apart)).make.alike.slots

pub acted_as_many : (box : BoxState) (event : Event) (step : BoxStep) → IsSoundBox box → box_event box event None ≡ Some step → length step.after.slots ≡ length box.slots
acted_as_many box event step sound goes = (event_acts box event step (λ (k : ℕ). []) (λ (k : ℕ). []) sound goes (λ k below. refl)).make.alike.slots

-- the tables hold on for the boxes and lanes that are then
pub runs_on : (inside : Inside) (boxes : Vec BoxState Global) (lanes : Vec Lane Global) (waiting : Waiting) (scratch : Queue (ℕ × Signal)) (who : ℕ) (after : BoxState) → IsRunning inside → boxes.items ≡ set inside.boxes.items who after
    → length after.slots ≡ length (get_or inside.boxes.items who no_box).slots → length lanes.items ≡ length inside.lanes.items → AreServed inside.topology (signals_of lanes.items)
    → IsWaiting inside.topology (signals_of lanes.items) waiting → scratch.items ≡ []
    → IsRunning (record inside { boxes = boxes; lanes = lanes; waiting = waiting; scratch = scratch })
runs_on inside boxes lanes waiting scratch who after runs boxes_are slots count served waits none =
    let many : length boxes.items ≡ length inside.boxes.items = ap (λ (l : List BoxState). length l) boxes_are ∙ length-set inside.boxes.items who after in
    record {
      channels = runs.channels;
      topology = runs.topology;
      lanes = count ∙ runs.lanes;
      laid = subst (λ (n : ℕ). IsLaid inside.topology n) (sym count) runs.laid;
      waiting = waits;
      homes = omega (arith, many, runs.homes);
      slots = λ other here.
          subst (λ (l : List BoxState). length (numbers_of inside.topology other) ≡ length (get_or l other no_box).slots) (sym boxes_are)
          (each_set inside.boxes.items who after no_box (λ (n : ℕ) (box : BoxState). n < length inside.boxes.items → length (numbers_of inside.topology n) ≡ length box.slots) runs.slots
          (λ home. runs.slots who home ∙ sym slots) other (subst (λ (n : ℕ). other < n) many here));
      served = served;
      scratch = none;
    }

-- ---- a box and lanes that stood in the engine while they changed

-- what was read of an engine: a box, and its lanes
pub record Reads (inside : Inside) (who : ℕ) (home : BoxState) (first : List Lane) : Type 0 where
  pub here : who < length inside.boxes.items
  pub home_is : home ≡ get_or inside.boxes.items who home
  pub first_is : first ≡ inside.lanes.items

home_at : (inside : Inside) (who : ℕ) (home : BoxState) (first : List Lane) → Reads inside who home first → home ≡ get_or inside.boxes.items who no_box
home_at inside who home first reads = get_or_read inside.boxes.items who home reads.here reads.home_is no_box

signals_then : (inside : Inside) (first made : List Lane) → first ≡ inside.lanes.items → length made ≡ length first → signals_of (with_items inside.lanes made).items ≡ signals_of made
signals_then inside first made is long = ap (λ (l : List Lane). signals_of l) (refilled inside.lanes made (long ∙ ap (λ (l : List Lane). length l) is))

-- the engine with this box and these lanes keeps what an engine keeps
then_runs : (inside : Inside) (who : ℕ) (home after : BoxState) (first made : List Lane) (waiting : Waiting) (scratch : Queue (ℕ × Signal)) → IsRunning inside → Reads inside who home first → length after.slots ≡ length home.slots
    → length made ≡ length first → AreServed inside.topology (signals_of made) → IsWaiting inside.topology (signals_of made) waiting → scratch.items ≡ []
    → IsRunning (record inside { boxes = with_item inside.boxes who after; lanes = with_items inside.lanes made; waiting = waiting; scratch = scratch })
then_runs inside who home after first made waiting scratch runs reads slots long served waits none =
    let signals : signals_of made ≡ signals_of (with_items inside.lanes made).items = sym (signals_then inside first made reads.first_is long) in
    runs_on inside (with_item inside.boxes who after) (with_items inside.lanes made) waiting scratch who after runs refl
    (slots ∙ ap (λ (box : BoxState). length box.slots) (home_at inside who home first reads))
    (ap (λ (l : List Lane). length l) (refilled inside.lanes made (long ∙ ap (λ (l : List Lane). length l) reads.first_is)) ∙ (long ∙ ap (λ (l : List Lane). length l) reads.first_is))
    (subst (λ (l : List (List Tagged)). AreServed inside.topology l) signals served) (subst (λ (l : List (List Tagged)). IsWaiting inside.topology l waiting) signals waits) none

-- where nothing came of it
pub unmoved_runs : (inside : Inside) (who : ℕ) (home after : BoxState) (first made : List Lane) (waiting : Waiting) (scratch : Queue (ℕ × Signal)) → IsRunning inside → Reads inside who home first → after ≡ home
    → length made ≡ length first → signals_of made ≡ signals_of first → IsWaiting inside.topology (signals_of made) waiting → scratch.items ≡ []
    → IsRunning (record inside { boxes = with_item inside.boxes who after; lanes = with_items inside.lanes made; waiting = waiting; scratch = scratch })
unmoved_runs inside who home after first made waiting scratch runs reads same long kept waits none =
    then_runs inside who home after first made waiting scratch runs reads (ap (λ (box : BoxState). length box.slots) same) long
    (subst (λ (l : List (List Tagged)). AreServed inside.topology l) (sym (kept ∙ ap (λ (l : List Lane). signals_of l) reads.first_is)) runs.served) waits none

pub unmoved : (inside : Inside) (world : WorldState) (who : ℕ) (home after : BoxState) (first made : List Lane) (waiting : Waiting) (scratch : Queue (ℕ × Signal)) → running_state inside ≡ world → Reads inside who home first → after ≡ home
    → length made ≡ length first → signals_of made ≡ signals_of first
    → running_state (record inside { boxes = with_item inside.boxes who after; lanes = with_items inside.lanes made; waiting = waiting; scratch = scratch }) ≡ world
unmoved inside world who home after first made waiting scratch view reads same long kept =
    let boxes : set inside.boxes.items who after ≡ inside.boxes.items = ap (λ (box : BoxState). set inside.boxes.items who box) (same ∙ home_at inside who home first reads) ∙ set-get_or inside.boxes.items who no_box in
    let lanes : signals_of (with_items inside.lanes made).items ≡ signals_of inside.lanes.items = signals_then inside first made reads.first_is long ∙ (kept ∙ ap (λ (l : List Lane). signals_of l) reads.first_is) in
    ap (λ (l : List BoxState). record { boxes = l; channels = inside.channels.items; lanes = signals_of (with_items inside.lanes made).items }) boxes
    ∙ (ap (λ (l : List (List Tagged)). record { boxes = inside.boxes.items; channels = inside.channels.items; lanes = l }) lanes ∙ view)

-- what an engine keeps of its tables and fronts, for lanes that were read of it
pub read_laid : (inside : Inside) (first : List Lane) → IsRunning inside → first ≡ inside.lanes.items → IsLaid inside.topology (length first)
read_laid inside first runs is = subst (λ (l : List Lane). IsLaid inside.topology (length l)) (sym is) runs.laid

pub read_served : (inside : Inside) (first : List Lane) (s : ℕ) → IsRunning inside → first ≡ inside.lanes.items → NextServed inside.topology (signals_of first) s
read_served inside first s runs is = subst (λ (l : List Lane). NextServed inside.topology (signals_of l) s) (sym is) (next_served inside.topology (signals_of inside.lanes.items) s runs.served)

-- a box that was read of a sound world is sound
pub home_sound : (inside : world.Inside) (world : WorldState) (who : ℕ) (home : BoxState) → world_state inside ≡ world → who < length world.boxes → IsSound world → home ≡ get_or inside.boxes.items who home → IsSoundBox home
home_sound inside world who home view here sound is = subst (λ (box : BoxState). IsSoundBox box) (sym (box_read inside world who home view here is)) (sound.boxes who here)

-- so a world in which nothing came of it keeps its tables
pub unmoved_tables : (inside : world.Inside) (who : ℕ) (home after : BoxState) (first made : List Lane) (waiting : Waiting) (scratch : Queue (ℕ × Signal)) → HasTables inside → Reads (as_engine inside) who home first → after ≡ home
    → length made ≡ length first → signals_of made ≡ signals_of first → IsWaiting inside.topology (signals_of made) waiting → scratch.items ≡ []
    → HasTables (record inside { boxes = with_item inside.boxes who after; lanes = with_items inside.lanes made; waiting = waiting; scratch = scratch })
unmoved_tables inside who home after first made waiting scratch has reads same long kept waits none =
    let runs = unmoved_runs (as_engine inside) who home after first made waiting scratch (world_runs inside has) reads same long kept waits none in
    let is : world_state inside ≡ world_state (record inside { boxes = with_item inside.boxes who after; lanes = with_items inside.lanes made; waiting = waiting; scratch = scratch }) =
    sym (unmoved (as_engine inside) (world_state inside) who home after first made waiting scratch refl reads same long kept) in
    record {
      channels = has.channels;
      topology = subst (λ (n : ℕ). IsTopologyOf inside.topology inside.channels.items n) (sym (length-set inside.boxes.items who after)) has.topology;
      lanes = runs.lanes;
      waiting = runs.waiting;
      scratch = none;
      sound = subst (λ (w : WorldState). IsSound w) is has.sound;
      ringless = λ remembered. subst (λ (w : WorldState). IsLeastOnRing w None) is (has.ringless remembered);
    }

-- ---- a Take

pub took : (inside : Inside) (world : WorldState) (who local s : ℕ) (signal : Signal) (home after : BoxState) (first made : List Lane) (waiting : Waiting) → IsRunning inside → running_state inside ≡ world → Reads inside who home first
    → number world who local ≡ Some s → front world s ≡ Some signal → length made ≡ length first
    → MakesEvent inside.topology who home after (Take local) (Some signal) (without_front (signals_of first) (lane_by inside.topology s)) (signals_of made)
    → step_by world who (Take local) ≡ Some (running_state (record inside { boxes = with_item inside.boxes who after; lanes = with_items inside.lanes made; waiting = waiting }))
took inside world who local s signal home after first made waiting runs view reads is front_is long makes =
    let here : running_state inside ≡ world = view in
    let step : BoxStep = record { sent = makes.sent; after = after } in
    let home_is = home_at inside who home first reads in
    let goes : box_event (box_at (running_state inside) who) (Take local) (Some signal) ≡ Some step = subst (λ (box : BoxState). box_event box (Take local) (Some signal) ≡ Some step) home_is makes.goes in
    let lanes : signals_of (with_items inside.lanes made).items ≡ all_sent inside.topology who (without_front (signals_of inside.lanes.items) (lane_by inside.topology s)) makes.sent =
    signals_then inside first made reads.first_is long ∙ (makes.lanes_are ∙ ap (λ (l : List Lane). all_sent inside.topology who (without_front (signals_of l) (lane_by inside.topology s)) makes.sent) reads.first_is) in
    subst (λ (w : WorldState). step_by w who (Take local) ≡ Some (running_state (record inside { boxes = with_item inside.boxes who after; lanes = with_items inside.lanes made; waiting = waiting }))) view
    (take_is (running_state inside) inside.topology who local s (lane_by inside.topology s) signal step
    (subst (λ (w : WorldState). number w who local ≡ Some s) (sym view) is) (subst (λ (w : WorldState). front w s ≡ Some signal) (sym view) front_is) goes (lane_at inside s runs) runs.topology.places runs.topology.tunnels
    ∙ ap (λ (l : List (List Tagged)). Some (record (running_state inside) { boxes = set inside.boxes.items who after; lanes = l })) (sym lanes))

pub took_runs : (inside : Inside) (who local s : ℕ) (signal : Signal) (home after : BoxState) (first made : List Lane) (waiting : Waiting) → IsRunning inside → Reads inside who home first → IsSoundBox home → length made ≡ length first
    → MakesEvent inside.topology who home after (Take local) (Some signal) (without_front (signals_of first) (lane_by inside.topology s)) (signals_of made) → IsWaiting inside.topology (signals_of made) waiting
    → IsRunning (record inside { boxes = with_item inside.boxes who after; lanes = with_items inside.lanes made; waiting = waiting })
took_runs inside who local s signal home after first made waiting runs reads sound long makes waits =
    let served : AreServed inside.topology (all_sent inside.topology who (without_front (signals_of first) (lane_by inside.topology s)) makes.sent) =
    all_served inside.topology (length inside.lanes.items) who makes.sent (without_front (signals_of first) (lane_by inside.topology s)) runs.laid
    (front_left inside.topology (signals_of first) (lane_by inside.topology s) (subst (λ (l : List Lane). AreServed inside.topology (signals_of l)) (sym reads.first_is) runs.served)) in
    then_runs inside who home after first made waiting inside.scratch runs reads (took_as_many home local signal (record { sent = makes.sent; after = after }) sound makes.goes) long
    (subst (λ (l : List (List Tagged)). AreServed inside.topology l) (sym makes.lanes_are) served) waits runs.scratch

-- it can happen where the signal is lawful
pub take_can : (inside : Inside) (world : WorldState) (who local s : ℕ) (signal : Signal) (home : BoxState) (first : List Lane) → IsRunning inside → running_state inside ≡ world → Reads inside who home first → IsSoundBox home
    → local < length (box_at world who).slots → IsSome (slot_take (slot_at (box_at world who) local) signal) → number world who local ≡ Some s → front world s ≡ Some signal → IsSome (step_by world who (Take local))
take_can inside world who local s signal home first runs view reads sound inside_box lawful is front_is =
    let home_is : home ≡ box_at world who = home_at inside who home first reads ∙ ap (λ (w : WorldState). box_at w who) view in
    let step = is_there (box_event (box_at world who) (Take local) (Some signal)) (take_goes (box_at world who) local signal (subst (λ (box : BoxState). IsSoundBox box) home_is sound) inside_box lawful) in
    subst (λ (o : Option WorldState). IsSome o)
    (sym (take_is world inside.topology who local s (lane_of world s) signal step.0 is front_is step.1 refl
    (subst (λ (w : WorldState). inside.topology.places.items ≡ places w) view runs.topology.places)
    (subst (λ (w : WorldState). inside.topology.tunnels.items ≡ map channel_of (all_tunnels w)) view runs.topology.tunnels))) refl

no_step : (o : Option BoxStep) → ((step : BoxStep) → o ≡ Some step → ⊥) → o ≡ None
no_step None none = refl
no_step (Some step) none = absurd (none step refl)

is_none : (b : Bool) → b ≡ false → b ≡ true → ⊥
is_none true off on = absurd (cc)
is_none false off on = absurd (cc)

-- and cannot where it is not
pub take_cannot : (world : WorldState) (who local s : ℕ) (signal : Signal) → number world who local ≡ Some s → front world s ≡ Some signal → is_some (slot_take (slot_at (box_at world who) local) signal) ≡ false
    → step_by world who (Take local) ≡ None
take_cannot world who local s signal is front_is off =
    let none : box_event (box_at world who) (Take local) (Some signal) ≡ None =
    no_step (box_event (box_at world who) (Take local) (Some signal)) (λ step goes. is_none (is_some (slot_take (slot_at (box_at world who) local) signal)) off (take_was_lawful (box_at world who) local signal step goes).1) in
    rw (is, front_is, none) refl

-- nor where there is no slot, or no signal for it
pub take_nowhere : (world : WorldState) (who local : ℕ) → number world who local ≡ None → step_by world who (Take local) ≡ None
take_nowhere world who local is = rw is refl

pub take_nothing : (world : WorldState) (who local s : ℕ) → number world who local ≡ Some s → front world s ≡ None → step_by world who (Take local) ≡ None
take_nothing world who local s is none = rw (is, none) refl

-- ---- another event

pub acted : (inside : Inside) (world : WorldState) (who : ℕ) (event : Event) (home after : BoxState) (first made : List Lane) (waiting : Waiting) (scratch : Queue (ℕ × Signal)) → IsRunning inside → running_state inside ≡ world → Reads inside who home first
    → is_take event ≡ false → length made ≡ length first → MakesEvent inside.topology who home after event None (signals_of first) (signals_of made)
    → step_by world who event ≡ Some (running_state (record inside { boxes = with_item inside.boxes who after; lanes = with_items inside.lanes made; waiting = waiting; scratch = scratch }))
acted inside world who event home after first made waiting scratch runs view reads other long makes =
    let step : BoxStep = record { sent = makes.sent; after = after } in
    let goes : box_event (box_at (running_state inside) who) event None ≡ Some step = subst (λ (box : BoxState). box_event box event None ≡ Some step) (home_at inside who home first reads) makes.goes in
    let lanes : signals_of (with_items inside.lanes made).items ≡ all_sent inside.topology who (signals_of inside.lanes.items) makes.sent =
    signals_then inside first made reads.first_is long ∙ (makes.lanes_are ∙ ap (λ (l : List Lane). all_sent inside.topology who (signals_of l) makes.sent) reads.first_is) in
    subst (λ (w : WorldState). step_by w who event ≡ Some (running_state (record inside { boxes = with_item inside.boxes who after; lanes = with_items inside.lanes made; waiting = waiting; scratch = scratch }))) view
    (act_is (running_state inside) inside.topology who event step other goes runs.topology.places runs.topology.tunnels
    ∙ ap (λ (l : List (List Tagged)). Some (record (running_state inside) { boxes = set inside.boxes.items who after; lanes = l })) (sym lanes))

pub acted_runs : (inside : Inside) (who : ℕ) (event : Event) (home after : BoxState) (first made : List Lane) (waiting : Waiting) (scratch : Queue (ℕ × Signal)) → IsRunning inside → Reads inside who home first → IsSoundBox home → length made ≡ length first
    → MakesEvent inside.topology who home after event None (signals_of first) (signals_of made) → IsWaiting inside.topology (signals_of made) waiting → scratch.items ≡ []
    → IsRunning (record inside { boxes = with_item inside.boxes who after; lanes = with_items inside.lanes made; waiting = waiting; scratch = scratch })
acted_runs inside who event home after first made waiting scratch runs reads sound long makes waits none =
    let served : AreServed inside.topology (all_sent inside.topology who (signals_of first) makes.sent) =
    all_served inside.topology (length inside.lanes.items) who makes.sent (signals_of first) runs.laid (subst (λ (l : List Lane). AreServed inside.topology (signals_of l)) (sym reads.first_is) runs.served) in
    then_runs inside who home after first made waiting scratch runs reads (acted_as_many home event (record { sent = makes.sent; after = after }) sound makes.goes) long
    (subst (λ (l : List (List Tagged)). AreServed inside.topology l) (sym makes.lanes_are) served) waits none

-- it can happen where it is enabled and no version ends
pub act_can : (inside : Inside) (world : WorldState) (who : ℕ) (event : Event) (home : BoxState) (first : List Lane) → running_state inside ≡ world → Reads inside who home first → IsSoundBox home → is_take event ≡ false
    → is_enabled (box_at world who) event ≡ true → is_version_end (box_at world who) event ≡ false → IsSome (step_by world who event)
act_can inside world who event home first view reads sound other enabled more =
    let home_is : home ≡ box_at world who = home_at inside who home first reads ∙ ap (λ (w : WorldState). box_at w who) view in
    let step = is_there (box_event (box_at world who) event None) (event_goes (box_at world who) event (subst (λ (box : BoxState). IsSoundBox box) home_is sound) enabled other more) in
    rw (act_by world who event other, step.1) refl

-- ---- what waits

-- a box's slot has a flag where a signal waits for it
pub flag_there : (inside : Inside) (who local : ℕ) → IsRunning inside → flag_of inside.waiting.flags.items (slice_get (numbers_of inside.topology who) local) ≡ take_waits (running_state inside) who local
flag_there inside who local runs = flag_is (running_state inside) inside.topology inside.waiting (length inside.topology.numbers.items) who local runs.topology runs.waiting

bit_none : (b : Bool) → bit b ≡ 0 → b ≡ false
bit_none true none = absurd (omega (arith, none))
bit_none false none = refl

no_flag : (flags : List Bool) (o : Option ℕ) → o ≡ None → flag_of flags o ≡ false
no_flag flags None is = refl
no_flag flags (Some s) is = absurd (cc)

-- a sum of bits that is 0 has none
none_flagged : (numbers : List ℕ) (flags : List Bool) (local : ℕ) → total (λ (k : ℕ). bit (flag_of flags (slice_get numbers k))) (length numbers) ≡ 0 → flag_of flags (slice_get numbers local) ≡ false
none_flagged numbers flags local none = elim (cases_lt local (length numbers)) [
  | inl below ↦ bit_none (flag_of flags (slice_get numbers local)) (omega (arith, none, total_has (λ (k : ℕ). bit (flag_of flags (slice_get numbers k))) (length numbers) local below))
  | inr past ↦ no_flag flags (slice_get numbers local) (slice_get_past numbers local past)
]

-- where none is counted none waits
pub none_there : (inside : Inside) (world : WorldState) (who local : ℕ) → IsRunning inside → running_state inside ≡ world → (who < length inside.topology.numbers.items → get_or inside.waiting.takes who 0 ≡ 0) → take_waits world who local ≡ false
none_there inside world who local runs view none =
    let off : flag_of inside.waiting.flags.items (slice_get (numbers_of inside.topology who) local) ≡ false = elim (cases_lt who (length inside.topology.numbers.items)) [
      | inl below ↦ none_flagged (numbers_of inside.topology who) inside.waiting.flags.items local (sym (runs.waiting.counted.each who below) ∙ none below)
      | inr past ↦ no_flag inside.waiting.flags.items (slice_get (numbers_of inside.topology who) local) (slice_get_past (numbers_of inside.topology who) local (omega (arith, ap (λ (l : List ℕ). length l) (none_past inside.topology who past))))
    ] in
    subst (λ (w : WorldState). take_waits w who local ≡ false) view (sym (flag_there inside who local runs) ∙ off)

-- a signal waits at the slot of a flag
pub waits_at : (inside : Inside) (world : WorldState) (who local : ℕ) (found : Option ℕ) → IsRunning inside → running_state inside ≡ world → found ≡ slice_get (numbers_of inside.topology who) local
    → flag_of inside.waiting.flags.items (slice_get (numbers_of inside.topology who) local) ≡ true → IfSome found (λ slot. WaitsAt world who slot)
waits_at inside world who local None runs view is flag = tt
waits_at inside world who local (Some s) runs view is flag =
    let at = found_at inside.topology.places.items who local s (sym (runs.topology.found who local) ∙ sym is) in
    let on : get_or inside.waiting.flags.items s false ≡ true = ap (flag_of inside.waiting.flags.items) is ∙ flag in
    subst (λ (w : WorldState). WaitsAt w who s) view (record {
      here = subst (λ (l : List (ℕ × ℕ)). s < length l) runs.topology.places at.0;
      home = subst (λ (l : List (ℕ × ℕ)). (get_or l s (0, 0)).0 ≡ who) runs.topology.places at.1;
      waits = sym (waits_is inside s runs) ∙ (sym (runs.waiting.flagged s at.0) ∙ on);
    })

-- which is there
pub flag_has : (P : Type 0) (flags : List Bool) (numbers : List ℕ) (local : ℕ) (found : Option ℕ) → found ≡ slice_get numbers local → flag_of flags (slice_get numbers local) ≡ true → IfNone found P
flag_has P flags numbers local None is flag = let off : false ≡ true = ap (flag_of flags) is ∙ flag in absurd (cc)
flag_has P flags numbers local (Some s) is flag = tt
