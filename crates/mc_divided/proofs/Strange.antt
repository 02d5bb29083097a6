-- No part's run stops at a signal that its slot must not take.
use Rattle.std.proofs.Common.{◌≡◌, ◌==◌, ◌<◌, ◌+◌, ◌*◌, if◌then◌else◌, Bool, true, false, ℕ, nat_lt, Some, None, Option, IsSome, List, [], ◌∷◌, get_or, length, slice_get, refl, ap, sym, ◌∙◌, subst, arith, true≢false, Vec, Global}
use Rattle.std.specs.Option.{is_some, option_and_then, option_map}
use Rattle.std.proofs.lemmas.Bool.{eqb-true, lt-ltb}
use Rattle.std.proofs.lemmas.List.{length-replicate}
use Rattle.mc_signal.specs.declared.Signal.{Signal}
use Rattle.mc_signal.specs.declared.Tagged.{Tagged}
use Rattle.mc_slot.specs.Moves.{slot_take}
use Rattle.mc_box.specs.BoxEvents.{BoxStep, box_event, turn_of}
use Rattle.mc_box.specs.BoxSound.{IsSoundBox}
use Rattle.mc_box.specs.Boxes.{BoxState, no_box, slot_at}
use Rattle.mc_box.specs.declared.event.Event.TheVariants.{Take}
use Rattle.mc_box.specs.declared.event.Turn.{Turn}
use Rattle.mc_box.proofs.EventGoes.{take_goes}
use Rattle.mc_laws.proofs.LanesKept.{lane_in as lane_below}
use Rattle.mc_laws.proofs.Numbers.{number_is}
use Rattle.mc_laws.proofs.StepGoes.{some_of}
use Rattle.mc_merge.specs.Fronts.{IsLawfulFront}
use Rattle.mc_merge.specs.Lanes.{into_box, leads_to, tunnel_at}
use Rattle.mc_merge.proofs.LaneEnds.{taker_is}
use Rattle.mc_model.specs.Sound.{IsSound}
use Rattle.mc_model.specs.Steps.{step}
use Rattle.mc_model.specs.Worlds.{ChannelState, WorldState, box_at, front, front_for, lane_of, number, place, slot_of, tunnel_of}
use Rattle.mc_merge.specs.Account.{part_lane}
use Rattle.mc_merge.specs.Phases.{TakesAt, lane_in}
use Rattle.mc_merge.specs.Weaving.{numbers_of}
use Rattle.mc_merge.specs.Wholes.{numbers_in}
use Rattle.mc_merge.specs.declared.log.PartLog.{PartLog}
use Rattle.mc_merge.proofs.Phases.{none_strange}
use Rattle.mc_world.specs.Waiting.{take_waits}
use Rattle.mc_world.proofs.LaneBoxes.{lane_run}
use Rattle.mc_part.specs.Divisions.{home_at}
use Rattle.mc_part.specs.Networks.{HaveHomes, HaveRun, states_of, tables_at, world_by}
use Rattle.mc_part.specs.Parts.{state_of, tables_of}
use Rattle.mc_part.specs.Running.{MeetsStrange}
use Rattle.mc_part.specs.declared.part.Part.{Part}
use Rattle.mc_part.specs.declared.part_run.PartRun.{PartRun}
use Rattle.mc_part.proofs.Networks.{homes_of, phase_of, ran_of}
use Rattle.mc_divided.specs.Networks.{IsDividedNetwork, base_of, network_layout, world_in}
use Rattle.mc_divided.specs.declared.network.DividedNetwork.{DividedNetwork}
use Rattle.mc_divided.proofs.Closed.{Phased, carried_over, homes_in, parts_of}
use Rattle.mc_divided.proofs.Drained.{IsLike}
use Rattle.mc_divided.proofs.PartsBy.{part_is, parts_by}
use Rattle.mc_divided.proofs.Phased.{HasNone, laid_of, none_of, went_run}
use Rattle.mc_divided.proofs.PhaseTurns.{world_is}
use Rattle.mc_divided.proofs.Progressed.{box_is}
use Rattle.mc_divided.proofs.Working.{HasSlotAt, if_same, into_found, slot_by}

-- ---- what waits for a slot of a part

record HasFront (engine : WorldState) (who local : ℕ) : Type 0 where
  slot : ℕ
  number : number engine who local ≡ Some slot
  first : Tagged
  rest : List Tagged
  is : get_or engine.lanes (lane_of engine slot) [] ≡ first ∷ rest
  tunnel : first.tunnel ≡ (tunnel_of engine slot).within
  front : front engine slot ≡ Some first.signal

front_by_test : (engine : WorldState) (who local s : ℕ) (first : Tagged) (rest : List Tagged) (test : Bool) → number engine who local ≡ Some s → get_or engine.lanes (lane_of engine s) [] ≡ first ∷ rest → (first.tunnel == (tunnel_of engine s).within) ≡ test
    → is_some (if test then Some first.signal else None) ≡ true → HasFront engine who local
front_by_test engine who local s first rest true found list same waits = record {
  slot = s;
  number = found;
  first = first;
  rest = rest;
  is = list;
  tunnel = eqb-true first.tunnel (tunnel_of engine s).within same;
  front = ap (λ (l : List Tagged). front_for (tunnel_of engine s).within l) list ∙ if_same (first.tunnel == (tunnel_of engine s).within) (Some first.signal) None same;
}
front_by_test engine who local s first rest false found list same waits = absurd (true≢false (sym waits))

front_by_lane : (engine : WorldState) (who local s : ℕ) (lane : List Tagged) → number engine who local ≡ Some s → get_or engine.lanes (lane_of engine s) [] ≡ lane → is_some (front_for (tunnel_of engine s).within lane) ≡ true → HasFront engine who local
front_by_lane engine who local s [] found list waits = absurd (true≢false (sym waits))
front_by_lane engine who local s (first ∷ rest) found list waits = front_by_test engine who local s first rest (first.tunnel == (tunnel_of engine s).within) found list refl waits

front_by : (engine : WorldState) (who local : ℕ) (o : Option ℕ) → number engine who local ≡ o → is_some (option_and_then (front engine) o) ≡ true → HasFront engine who local
front_by engine who local None found waits = absurd (true≢false (sym waits))
front_by engine who local (Some s) found waits = front_by_lane engine who local s (get_or engine.lanes (lane_of engine s) []) found refl waits

front_of : (engine : WorldState) (who local : ℕ) → take_waits engine who local ≡ true → HasFront engine who local
front_of engine who local waits = front_by engine who local (number engine who local) refl waits

-- ---- a lane of a part is one of the network

-- the slot of the network, and its lane, which a part takes from here
record HasLane (n : DividedNetwork) (box local i who at within : ℕ) : Type 0 where
  home : home_at n.assigned.items box ≡ (i, who)
  box_inside : box < length (base_of n).boxes
  slot : ℕ
  number : number (base_of n) box local ≡ Some slot
  inside : lane_of (base_of n) slot < length (base_of n).lanes
  takers : (network_layout n).takers (lane_of (base_of n) slot) ≡ (i, at)
  within_is : (tunnel_of (base_of n) slot).within ≡ within

record HasSlot (world : WorldState) (who local within : ℕ) : Type 0 where
  slot : ℕ
  number : number world who local ≡ Some slot
  within_is : (tunnel_of world slot).within ≡ within

slot_of_tunnel : (world : WorldState) (who local within : ℕ) (o : Option ℕ) → number world who local ≡ o → option_map (λ s. (tunnel_of world s).within) o ≡ Some within → HasSlot world who local within
slot_of_tunnel world who local within None found is = absurd (cc)
slot_of_tunnel world who local within (Some s) found is = record { slot = s; number = found; within_is = let same : (tunnel_of world s).within ≡ within = cc in same }

one_pair : (a b : ℕ) (t : ℕ × ℕ) → t ≡ (a, b) → (t.0 ≡ a) × (t.1 ≡ b)
one_pair a b t same = (ap (λ (t : ℕ × ℕ). t.0) same, ap (λ (t : ℕ × ℕ). t.1) same)

one_slot : (world : WorldState) (who local s t : ℕ) → number world who local ≡ Some s → number world who local ≡ Some t → s ≡ t
one_slot world who local s t first second = cc

lane_by : (n : DividedNetwork) → IsDividedNetwork n → (i : ℕ) (x : PartRun) → slice_get n.runs.items i ≡ Some x → (who local s : ℕ) → who < length x.part.engine.boxes → number (tables_of x.part) who local ≡ Some s
    → HasLane n (numbers_in (numbers_of n.logs.items) i who) local i who (lane_of (tables_of x.part) s) (tunnel_of (tables_of x.part) s).within
lane_by n divided i x there who local s here found =
    let none : Part = (none_of n divided).none in
    let base : WorldState = base_of n in
    let parts : ℕ → Part = parts_by none n.runs.items in
    let laid = (laid_of n none divided).laid in
    let is : parts i ≡ x.part = part_is none n.runs.items i x there in
    let homes : HaveHomes (network_layout n) (numbers_of n.logs.items) parts (length base.boxes) = homes_in n none divided in
    let here_2 : who < length (parts i).engine.boxes = subst (λ (p : Part). who < length p.engine.boxes) (sym is) here in
    let box : ℕ = numbers_in (numbers_of n.logs.items) i who in
    let home : home_at n.assigned.items box ≡ (i, who) = homes.there i who here_2 in
    let tunnel : tunnel_at (tables_of x.part) who local ≡ Some (tunnel_of (tables_of x.part) s).within = ap (λ (o : Option ℕ). option_map (λ t. (tunnel_of (tables_of x.part) t).within) o) found in
    let tunnel_2 : tunnel_at base box local ≡ Some (tunnel_of (tables_of x.part) s).within =
    sym (laid.tunnels box (homes.inside i who here_2) local)
    ∙ (ap (λ (t : ℕ × ℕ). tunnel_at (tables_of (parts t.0)) t.1 local) home ∙ (ap (λ (p : Part). tunnel_at (tables_of p) who local) is ∙ tunnel)) in
    let slot : HasSlot base box local (tunnel_of (tables_of x.part) s).within = slot_of_tunnel base box local (tunnel_of (tables_of x.part) s).within (number base box local) refl tunnel_2 in
    let lane : ℕ = lane_of base slot.slot in
    let inside : lane < length base.lanes =
    subst (λ (k : ℕ). lane < k) (sym (length-replicate (2 * length base.channels) [])) (lane_below base slot.slot (number_is base box local slot.slot slot.number).0) in
    let part : ℕ = ((network_layout n).takers lane).0 in
    let at : ℕ = ((network_layout n).takers lane).1 in
    let takes : TakesAt base (network_layout n) (tables_at parts) (states_of parts) lane part at = laid.takes lane inside in
    let taker : leads_to base lane ≡ box = taker_is base box local slot.slot slot.number in
    let both = one_pair part (leads_to (tables_of (parts part)) at) (home_at n.assigned.items box) (ap (λ (k : ℕ). home_at n.assigned.items k) (sym taker) ∙ takes.home) in
    let part_is_i : i ≡ part = ap (λ (t : ℕ × ℕ). t.0) (sym home) ∙ both.0 in
    let who_is : who ≡ leads_to (tables_of (parts part)) at = ap (λ (t : ℕ × ℕ). t.1) (sym home) ∙ both.1 in
    let into : into_box base (leads_to base lane) lane local ≡ Some (tunnel_of base slot.slot).within =
    ap (λ (k : ℕ). into_box base k lane local) taker ∙ into_found base box local slot.slot lane slot.number refl in
    let into_2 : into_box (tables_of (parts part)) who at local ≡ Some (tunnel_of base slot.slot).within =
    ap (λ (k : ℕ). into_box (tables_of (parts part)) k at local) who_is ∙ (takes.tunnels local ∙ into) in
    let same_part : parts part ≡ x.part = ap parts (sym part_is_i) ∙ is in
    let into_3 : into_box (tables_of x.part) who at local ≡ Some (tunnel_of base slot.slot).within = ap (λ (p : Part). into_box (tables_of p) who at local) (sym same_part) ∙ into_2 in
    let end : HasSlotAt (tables_of x.part) who local at (tunnel_of base slot.slot).within =
    slot_by (tables_of x.part) who local at (tunnel_of base slot.slot).within (number (tables_of x.part) who local) refl into_3 in
    let lane_is : at ≡ lane_of (tables_of x.part) s = sym end.leads ∙ ap (λ (k : ℕ). lane_of (tables_of x.part) k) (one_slot (tables_of x.part) who local end.slot s end.number found) in
    record {
      home = home;
      box_inside = homes.inside i who here_2;
      slot = slot.slot;
      number = slot.number;
      inside = inside;
      takers = ap (λ (k : ℕ). (k, at)) (sym part_is_i) ∙ ap (λ (k : ℕ). (i, k)) lane_is;
      within_is = slot.within_is;
    }

-- ---- what may be taken can happen

takes_by : (world : WorldState) (who local s : ℕ) (signal : Signal) (turn : BoxStep) → nat_lt who (length world.boxes) ≡ true → number world who local ≡ Some s → front world s ≡ Some signal → box_event (box_at world who) (Take local) (Some signal) ≡ Some turn
    → IsSome (step world (turn_of who (Take local)))
takes_by world who local s signal turn below found fronts goes = rw (below, found, fronts, goes) refl

not_both : {A : Type 0} (o : Option A) → IsSome o → o ≡ None → ⊥
not_both None some is = absurd (cc)
not_both (Some x) some is = absurd (cc)

can_take : (world : WorldState) (who local s : ℕ) (signal : Signal) → who < length world.boxes → IsSoundBox (box_at world who) → local < length (box_at world who).slots → number world who local ≡ Some s → front world s ≡ Some signal
    → IsSome (slot_take (slot_at (box_at world who) local) signal) → step world (turn_of who (Take local)) ≡ None → ⊥
can_take world who local s signal here sound inside found fronts lawful cannot =
    let turn = some_of (box_event (box_at world who) (Take local) (Some signal)) (take_goes (box_at world who) local signal sound inside lawful) in
    not_both (step world (turn_of who (Take local))) (takes_by world who local s signal turn.0 (lt-ltb who (length world.boxes) here) found fronts turn.1) cannot

-- ---- what is at the front of the network's lane

-- it is for this slot, which may take it
record MayTake (world : WorldState) (who local : ℕ) (signal : Signal) : Type 0 where
  here : who < length world.boxes
  inside : local < length (box_at world who).slots
  lawful : IsSome (slot_take (slot_at (box_at world who) local) signal)

may_take : (world : WorldState) (who local s : ℕ) (tagged : Tagged) → IsSound world → number world who local ≡ Some s → (tunnel_of world s).within ≡ tagged.tunnel → IsLawfulFront world (lane_of world s) tagged → MayTake world who local tagged.signal
may_take world who local s tagged sound found within lawful =
    let at = number_is world who local s found in
    let same : lawful.s ≡ s = two_same s lawful.s (tunnel_of world s).within (tunnel_of world lawful.s).within (lane_run world s lawful.s at.0 lawful.fits.inside (sym lawful.fits.leads)) (within ∙ sym lawful.fits.within) in
    record {
      here = subst (λ (k : ℕ). k < length world.boxes) at.1 (sound.numbered.placed s at.0);
      inside = subst (λ (t : ℕ). t < length (box_at world who).slots) at.2 (subst (λ (k : ℕ). (place world s).1 < length (box_at world k).slots) at.1 (sound.numbered.slots s at.0));
      lawful = subst (λ (t : ℕ). IsSome (slot_take (slot_at (box_at world who) t) tagged.signal)) at.2
          (subst (λ (k : ℕ). IsSome (slot_take (slot_at (box_at world k) (place world s).1) tagged.signal)) at.1 (subst (λ (k : ℕ). IsSome (slot_take (slot_of world k) tagged.signal)) same lawful.lawful));
    }
  where
    two_same : (a b v w : ℕ) → a + 2 * w ≡ b + 2 * v → v ≡ w → b ≡ a
    two_same a b v w run is = omega (arith, run, is)

lawful_front : (n : DividedNetwork) (retries every : Bool) (budget : ℕ) (chosen gone carried closed : List PartRun) (logs_2 : List PartLog) (before after : List Turn) (none : HasNone n) → Phased n retries every budget chosen gone carried closed logs_2 before after → (lane : ℕ) (tagged : Tagged) (rest : List Tagged) → lane < length (base_of n).lanes
    → lane_in (network_layout n) (states_of (parts_by none.none gone)) lane ≡ tagged ∷ rest → IsLawfulFront (world_by (base_of n) (network_layout n) (parts_by none.none closed)) lane tagged
lawful_front n retries every budget chosen gone carried closed logs_2 before after none p lane tagged rest inside is =
    let old : ℕ → Part = parts_by none.none n.runs.items in
    let new : ℕ → Part = parts_by none.none gone in
    let drained : ℕ → Part = parts_by none.none closed in
    let runs : HaveRun retries old new = went_run n retries every budget chosen gone none p.went in
    none_strange (base_of n) (network_layout n) (ran_of retries old new runs) (states_of drained) (numbers_in (numbers_of n.logs.items)) lane tagged rest
    (phase_of (base_of n) (network_layout n) retries old new drained runs (parts_of n none.none p.went.divided) (carried_over n retries every budget chosen gone carried closed logs_2 before after none p))
    (homes_of (base_of n) (network_layout n) retries old new runs (numbers_of n.logs.items) (homes_in n none.none p.went.divided))
    (subst (λ (w : WorldState). IsSound w) (sym (world_is n none.none)) p.went.divided.sound) inside is

-- ---- of a part that ran, and the one after the phase

pub none_meets_strange : (n : DividedNetwork) (retries every : Bool) (budget : ℕ) (chosen gone carried : List PartRun) (runs : Vec PartRun Global) (logs : Vec PartLog Global) (before after : List Turn) → Phased n retries every budget chosen gone carried runs.items logs.items before after
    → IsDividedNetwork (record n { runs = runs; logs = logs; calm = false; free = false }) → (i who local : ℕ) (x c d : PartRun) → slice_get n.runs.items i ≡ Some x → slice_get gone i ≡ Some c → slice_get runs.items i ≡ Some d → c.part.engine.channels ≡ x.part.engine.channels
    → length c.part.engine.boxes ≡ length x.part.engine.boxes → IsLike c.part d.part → MeetsStrange c.part who local → ⊥
none_meets_strange n retries every budget chosen gone carried runs logs before after p divided_2 i who local x c d there c_there d_there channels boxes like meets =
    let m : DividedNetwork = record n { runs = runs; logs = logs; calm = false; free = false } in
    let none : HasNone n = none_of n p.went.divided in
    let front : HasFront c.part.engine who local = front_of c.part.engine who local meets.waits in
    let tables : tables_of c.part ≡ tables_of x.part = ap (λ (channels : List ChannelState). record { boxes = []; channels = channels; lanes = [] }) channels in
    let here : who < length x.part.engine.boxes = subst (λ (k : ℕ). who < k) boxes meets.here in
    let box : ℕ = numbers_in (numbers_of n.logs.items) i who in
    let at : ℕ = lane_of (tables_of x.part) front.slot in
    let found : HasLane n box local i who at (tunnel_of (tables_of x.part) front.slot).within =
    lane_by n p.went.divided i x there who local front.slot here (subst (λ (t : WorldState). number t who local ≡ Some front.slot) tables front.number) in
    let lane : ℕ = lane_of (base_of n) found.slot in
    let list : lane_in (network_layout n) (states_of (parts_by none.none gone)) lane ≡ front.first ∷ front.rest =
    ap (λ (t : ℕ × ℕ). part_lane (state_of (parts_by none.none gone t.0)) t.1) found.takers
    ∙ (ap (λ (q : Part). part_lane (state_of q) at) (part_is none.none gone i c c_there) ∙ (ap (λ (t : WorldState). part_lane (state_of c.part) (lane_of t front.slot)) (sym tables) ∙ front.is)) in
    let lawful : IsLawfulFront (world_in m) lane front.first =
    subst (λ (w : WorldState). IsLawfulFront w lane front.first) (world_is m none.none)
    (lawful_front n retries every budget chosen gone carried runs.items logs.items before after none p lane front.first front.rest found.inside list) in
    let may : MayTake (world_in m) box local front.first.signal =
    may_take (world_in m) box local found.slot front.first divided_2.sound found.number (found.within_is ∙ (ap (λ (t : WorldState). (tunnel_of t front.slot).within) (sym tables) ∙ sym front.tunnel)) lawful in
    let same : box_at (world_in m) box ≡ box_at c.part.engine who =
    box_is m box i who d divided_2 (record { home = found.home; there = d_there }) found.box_inside ∙ ap (λ (l : List BoxState). get_or l who no_box) like.boxes in
    can_take c.part.engine who local front.slot front.first.signal meets.here (subst (λ (b : BoxState). IsSoundBox b) same (divided_2.sound.boxes box may.here)) (subst (λ (b : BoxState). local < length b.slots) same may.inside)
    front.number front.front (subst (λ (b : BoxState). IsSome (slot_take (slot_at b local) front.first.signal)) same may.lawful) meets.cannot.0
