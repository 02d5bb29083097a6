-- In which part of a network something is to do.
use Rattle.std.proofs.Common.{◌≡◌, ◌≢◌, inl, inr, ◌==◌, ◌&&◌, ◌<◌, if◌then◌else◌, Bool, true, false, ℕ, suc, nat_lt, Some, None, Option, List, [], ◌∷◌, length, get_or, refl, ap, sym, ◌∙◌, subst, arith, true≢false, eq-eqb}
use Rattle.std.specs.List.{list_all}
use Rattle.std.specs.Option.{is_some, option_and_then, option_map}
use Rattle.std.proofs.lemmas.Bool.{eqb-true, ltb-true}
use Rattle.std.proofs.lemmas.List.FromFn.{get_or-map-range_with_len, length-map-range_with_len}
use Rattle.mc_signal.specs.declared.Tagged.{Tagged}
use Rattle.mc_box.specs.BoxEvents.{is_enabled}
use Rattle.mc_box.specs.Boxes.{BoxState, box_owes, is_slot}
use Rattle.mc_box.specs.declared.event.Event.TheVariants.{Shift}
use Rattle.mc_box.specs.declared.limit.TheConstants.{SHIFT_LIMIT}
use Rattle.mc_port.specs.Tunnels.{tunnel_if_at}
use Rattle.mc_merge.specs.Lanes.{into_box, lane_place, leads_to}
use Rattle.mc_merge.proofs.LaneEnds.{taker_is}
use Rattle.mc_model.specs.Served.{AllServed}
use Rattle.mc_model.specs.Settles.{is_empty, is_quiet, world_owes}
use Rattle.mc_model.specs.Worlds.{WorldState, box_at, front, front_for, lane_of, number, place, tunnel_of}
use Rattle.mc_merge.specs.Account.{PartState, part_lane}
use Rattle.mc_merge.specs.Phases.{TakesAt, lane_in}
use Rattle.mc_world.specs.Waiting.{take_waits}
use Rattle.mc_part.specs.Divisions.{home_at}
use Rattle.mc_part.specs.Networks.{states_of, tables_at, world_by}
use Rattle.mc_part.specs.Parts.{state_of, stimuli_of, tables_of}
use Rattle.mc_part.specs.declared.part.Part.{Part}
use Rattle.mc_part.specs.declared.part_run.PartRun.{PartRun}
use Rattle.mc_part.proofs.Networks.{owed_same}
use Rattle.mc_divided.specs.Networks.{IsDividedNetwork, base_of, network_layout, network_state, states_among, world_in}
use Rattle.mc_divided.specs.States.{HasWork}
use Rattle.mc_divided.specs.States.HasWork.{by_command, by_program, by_retry, by_signal}
use Rattle.mc_divided.specs.declared.network.DividedNetwork.{DividedNetwork}
use Rattle.mc_divided.proofs.Closed.{parts_of}
use Rattle.mc_divided.proofs.PartsBy.{part_is, parts_by, run_there, states_are}
use Rattle.mc_divided.proofs.Phased.{laid_of, none_of}
use Rattle.mc_divided.proofs.PhaseTurns.{home_inside, world_is}
use Rattle.mc_divided.proofs.Progressed.{Works, box_is, command_here, enabled_here, home_of, shifts_at, stimuli_at, world_boxes}

-- ---- a signal that is under way

record HasSignal (lanes : List (List Tagged)) : Type 0 where
  lane : ℕ
  inside : lane < length lanes
  first : Tagged
  rest : List Tagged
  is : get_or lanes lane [] ≡ first ∷ rest

later_signal : (lane : List Tagged) (lanes : List (List Tagged)) → HasSignal lanes → HasSignal (lane ∷ lanes)
later_signal lane lanes has = record { lane = suc has.lane; inside = let below : has.lane < length lanes = has.inside in omega (arith, below); first = has.first; rest = has.rest; is = has.is }

some_signal : (lanes : List (List Tagged)) → list_all is_empty lanes ≡ false → HasSignal lanes
some_signal [] is = absurd (true≢false is)
some_signal ([] ∷ lanes) is = later_signal [] lanes (some_signal lanes is)
some_signal ((tagged ∷ rest) ∷ lanes) is = record { lane = 0; inside = omega arith; first = tagged; rest = rest; is = refl }

-- the slot whose tunnel of a lane this is
pub record HasSlotAt (tables : WorldState) (who local lane tunnel : ℕ) : Type 0 where
  pub slot : ℕ
  pub number : number tables who local ≡ Some slot
  pub leads : lane_of tables slot ≡ lane
  pub within : (tunnel_of tables slot).within ≡ tunnel

pub slot_by : (tables : WorldState) (who local lane tunnel : ℕ) (o : Option ℕ) → number tables who local ≡ o → tunnel_if_at lane (option_map (λ s. lane_place tables s) o) ≡ Some tunnel → HasSlotAt tables who local lane tunnel
slot_by tables who local lane tunnel None is there = absurd (cc)
slot_by tables who local lane tunnel (Some s) is there = by_test (lane_of tables s == lane) refl there
  where
    by_test : (test : Bool) → (lane_of tables s == lane) ≡ test → (if test then Some (tunnel_of tables s).within else None) ≡ Some tunnel → HasSlotAt tables who local lane tunnel
    by_test true same found = record { slot = s; number = is; leads = eqb-true (lane_of tables s) lane same; within = let t : (tunnel_of tables s).within ≡ tunnel = cc in t }
    by_test false same found = absurd (cc)

pub if_same : {A : Type 0} (test : Bool) (x y : A) → test ≡ true → (if test then x else y) ≡ x
if_same true x y is = refl
if_same false x y is = absurd (true≢false (sym is))

pub into_found : (world : WorldState) (who local s lane : ℕ) → number world who local ≡ Some s → lane_of world s ≡ lane → into_box world who lane local ≡ Some (tunnel_of world s).within
into_found world who local s lane found leads =
    ap (λ (o : Option ℕ). tunnel_if_at lane (option_map (λ s. lane_place world s) o)) found ∙ if_same (lane_of world s == lane) (Some (tunnel_of world s).within) None (eq-eqb (lane_of world s) lane leads)

waits_at : (engine : WorldState) (who local tunnel lane : ℕ) (first : Tagged) (rest : List Tagged) (slot : HasSlotAt engine who local lane tunnel) → get_or engine.lanes lane [] ≡ first ∷ rest → first.tunnel ≡ tunnel → take_waits engine who local ≡ true
waits_at engine who local tunnel lane first rest slot is same =
    ap (λ (o : Option ℕ). is_some (option_and_then (front engine) o)) slot.number
    ∙ (ap (λ (l : List Tagged). is_some (front_for (tunnel_of engine slot.slot).within l)) (ap (λ (k : ℕ). get_or engine.lanes k []) slot.leads ∙ is)
    ∙ ap (λ o. is_some o) (if_same (first.tunnel == (tunnel_of engine slot.slot).within) (Some first.signal) None (eq-eqb first.tunnel (tunnel_of engine slot.slot).within (same ∙ sym slot.within))))

pub by_waiting : (n : DividedNetwork) (retries : Bool) → IsDividedNetwork n → is_quiet (world_in n) ≡ false → Works n retries
by_waiting n retries divided quiet =
    let none = (none_of n divided).none in
    let world : WorldState = world_in n in
    let has : HasSignal world.lanes = some_signal world.lanes quiet in
    let lane : ℕ = has.lane in
    let inside : lane < length (base_of n).lanes = subst (λ (k : ℕ). lane < k) (length-map-range_with_len (lane_in (network_layout n) (states_among n.runs.items)) 0 (length (base_of n).lanes)) has.inside in
    let for = (subst (λ (l : List Tagged). AllServed world lane l) has.is (divided.sound.served lane)).0 in
    let s : ℕ = for.0 in
    let who : ℕ = (place world s).0 in
    let local : ℕ = (place world s).1 in
    let found : number world who local ≡ Some s = divided.sound.numbered.once s for.1.inside in
    let taker : leads_to world lane ≡ who = ap (λ (k : ℕ). leads_to world k) (sym for.1.leads) ∙ taker_is world who local s found in
    let into : into_box (base_of n) (leads_to (base_of n) lane) lane local ≡ Some (tunnel_of world s).within =
    ap (λ (k : ℕ). into_box world k lane local) taker ∙ into_found world who local s lane found for.1.leads in
    let part : ℕ = ((network_layout n).takers lane).0 in
    let at : ℕ = ((network_layout n).takers lane).1 in
    let run = run_there n.runs.items part (home_inside n divided (leads_to (base_of n) lane)) in
    let x : PartRun = run.0 in
    let is : parts_by none n.runs.items part ≡ x.part = part_is none n.runs.items part x run.1 in
    let takes : TakesAt (base_of n) (network_layout n) (tables_at (parts_by none n.runs.items)) (states_of (parts_by none n.runs.items)) lane part at = (laid_of n none divided).laid.takes lane inside in
    let tunnels : into_box (tables_of x.part) (leads_to (tables_of x.part) at) at local ≡ Some (tunnel_of world s).within =
    ap (λ (p : Part). into_box (tables_of p) (leads_to (tables_of p) at) at local) (sym is) ∙ (takes.tunnels local ∙ into) in
    let slot : HasSlotAt x.part.engine (leads_to (tables_of x.part) at) local at (tunnel_of world s).within =
    slot_by x.part.engine (leads_to (tables_of x.part) at) local at (tunnel_of world s).within (number x.part.engine (leads_to (tables_of x.part) at) local) refl tunnels in
    let list : get_or x.part.engine.lanes at [] ≡ has.first ∷ has.rest =
    ap (λ (p : Part). part_lane (state_of p) at) (sym is)
    ∙ (ap (λ (states : ℕ → PartState). lane_in (network_layout n) states lane) (sym (states_are none n.runs.items))
    ∙ (sym (get_or-map-range_with_len (lane_in (network_layout n) (states_among n.runs.items)) 0 (length (base_of n).lanes) lane lane [] inside (omega arith)) ∙ has.is)) in
    let here : leads_to (tables_of x.part) at < length x.part.engine.boxes = subst (λ (p : Part). leads_to (tables_of p) at < length p.engine.boxes) is takes.here in
    record {
      i = part;
      x = x;
      there = run.1;
      at = leads_to (tables_of x.part) at;
      here = here;
      work = inr (inl (leads_to (tables_of x.part) at, (local, (here, waits_at x.part.engine (leads_to (tables_of x.part) at) local (tunnel_of world s).within at has.first has.rest slot list (sym for.1.within)))));
    }

-- ---- other work

first_true : (a b c : Bool) → (a && b && c) ≡ true → a ≡ true
first_true true b c is = refl
first_true false b c is = absurd (true≢false (sym is))

abbrev one_if : Bool → ℕ
one_if b = if b then 1 else 0

owed_one : (retries : Bool) (owes : Bool) → retries ≡ true → owes ≡ true → one_if (retries && owes) ≡ 1
owed_one true true on owes = refl
owed_one true false on owes = absurd (true≢false (sym owes))
owed_one false owes on is = absurd (true≢false (sym on))

-- a slot owes a retry in the network, where it does in its part
pub owed_at : (n : DividedNetwork) (divided : IsDividedNetwork n) (who local : ℕ)
    → world_owes (home_of n divided who).0.part.engine (home_at n.assigned.items who).1 local ≡ world_owes (world_in n) who local
owed_at n divided who local =
    let none = (none_of n divided).none in
    let home = home_of n divided who in
    let part : ℕ = (home_at n.assigned.items who).0 in
    let at : ℕ = (home_at n.assigned.items who).1 in
    ap (λ (p : Part). world_owes p.engine at local) (sym (part_is none n.runs.items part home.0 home.1.there))
    ∙ (sym (owed_same (base_of n) (network_layout n) (parts_by none n.runs.items) who local (parts_of n none divided))
    ∙ ap (λ (w : WorldState). world_owes w who local) (world_is n none))

pub works_of : (n : DividedNetwork) (retries : Bool) → IsDividedNetwork n → HasWork retries (network_state n) → Works n retries
works_of n retries divided (by_command who some) =
    let home = home_of n divided who in
    let at : ℕ = (home_at n.assigned.items who).1 in
    let some_2 : stimuli_of home.0.part at ≢ [] = λ none. some (stimuli_at n who (home_at n.assigned.items who).0 at home.0 divided home.1 ∙ none) in
    record { i = (home_at n.assigned.items who).0; x = home.0; there = home.1.there; at = at; here = command_here n divided (home_at n.assigned.items who).0 home.0 home.1.there at some_2; work = inl (at, some_2) }
works_of n retries divided (by_program who inside fewer enabled) =
    let home = home_of n divided who in
    let part : ℕ = (home_at n.assigned.items who).0 in
    let at : ℕ = (home_at n.assigned.items who).1 in
    let box : box_at (world_in n) who ≡ box_at home.0.part.engine at = box_is n who part at home.0 divided home.1 (subst (λ (k : ℕ). who < k) (world_boxes n) inside) in
    let enabled_2 : is_enabled (box_at home.0.part.engine at) Shift ≡ true = ap (λ (b : BoxState). is_enabled b Shift) (sym box) ∙ enabled in
    let here = enabled_here home.0.part.engine.boxes at enabled_2 in
    record {
      i = part;
      x = home.0;
      there = home.1.there;
      at = at;
      here = here;
      work = inr (inr (inr (at, record { here = here; enabled = enabled_2; fewer = subst (λ (k : ℕ). k < SHIFT_LIMIT) (shifts_at n who part at home.0 divided home.1) fewer })));
    }
works_of n retries divided (by_signal quiet) = by_waiting n retries divided quiet
works_of n retries divided (by_retry on who local owes) =
    let home = home_of n divided who in
    let part : ℕ = (home_at n.assigned.items who).0 in
    let at : ℕ = (home_at n.assigned.items who).1 in
    let owes_2 : world_owes home.0.part.engine at local ≡ true = owed_at n divided who local ∙ owes in
    let here : at < length home.0.part.engine.boxes =
    ltb-true at (length home.0.part.engine.boxes) (first_true (nat_lt at (length home.0.part.engine.boxes)) (is_slot (box_at home.0.part.engine at) local) (box_owes (box_at home.0.part.engine at) local) owes_2) in
    record { i = part; x = home.0; there = home.1.there; at = at; here = here; work = inr (inr (inl (at, (local, owed_one retries (world_owes home.0.part.engine at local) on owes_2)))) }
