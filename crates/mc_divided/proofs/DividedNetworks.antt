-- A network that was divided into parts.
use Rattle.std.proofs.Common.{◌≡◌, ◌<◌, ◌≤◌, ◌*◌, inl, inr, All, Bool, true, false, IsTrue, ℕ, zero, suc, Some, List, [], ◌∷◌, drop, length, get_or, map, replicate, refl, ap, ap₂, sym, ◌∙◌, subst, arith, true≢false}
use Rattle.std.proofs.Math.Path.{fun_ext}
use Rattle.std.proofs.lemmas.Bool.{cases_lt}
use Rattle.std.proofs.lemmas.List.{ext_get_or, get_or-map, length-map, length-replicate}
use Rattle.std.proofs.lemmas.Option.{get_or_from_slice_get, slice_get_within}
use Rattle.std.specs.List.{AllByRecursion, slice_get}
use Rattle.mc_box.specs.BoxEvents.{is_command, is_enabled}
use Rattle.mc_box.specs.Boxes.{BoxState, no_box}
use Rattle.mc_box.specs.declared.event.Event.{Event}
use Rattle.mc_box.specs.declared.event.Event.TheVariants.{Shift}
use Rattle.mc_box.specs.declared.event.Turn.{Turn}
use Rattle.mc_box.specs.declared.limit.TheConstants.{SLOT_LIMIT}
use Rattle.mc_part.specs.Divisions.{boxes_in, channels_in, first_part, home_at, members, part_numbers, starts_in, tables_in}
use Rattle.mc_part.specs.DividedParts.{AreNumbersIn, count_of, share_of}
use Rattle.mc_part.proofs.Leads.{divisions_lead_away}
use Rattle.mc_part.proofs.Members.{IsMember, first_parts_are_divided, member_here}
use Rattle.mc_model.specs.Shapes.{is_allowed}
use Rattle.mc_model.specs.Sound.{IsSound}
use Rattle.mc_model.specs.Worlds.{ChannelState, WorldState, box_at, first_world}
use Rattle.mc_divided.specs.Laying.{AreLaid, AreWhole, AreWired, IsDivision, IsLaid, numbered_port, ports_in}
use Rattle.mc_divided.specs.Networks.{IsDividedNetwork, IsIdle, ShareClock, channels_of, network_state, shifts_among, stimuli_among, turn_budget}
use Rattle.mc_divided.specs.States.{NetworkState, new_state, no_shifts, no_stimuli}
use Rattle.mc_divided.specs.declared.limit.TheConstants.{NETWORK_LIMIT}
use Rattle.mc_divided.specs.declared.network.Crossing.{Crossing}
use Rattle.mc_divided.specs.declared.network.DividedNetwork.{DividedNetwork}
use Rattle.mc_divided.proofs.Joining.{all_joined, all_sides}
use Rattle.mc_divided.proofs.LaidOut.{HaveLaid, IsRunAt, are_layout, boxes_at, channels_at, map_past, map_there, none_waits, run_at, stand_for_world, world_of}
use Rattle.mc_divided.proofs.PartsLaid.{ports_few}
use Rattle.mc_divided.proofs.PortSlots.{tables_by}
use Rattle.mc_divided.proofs.Together.{share_is}
use Rattle.mc_part.specs.Parts.{LeadsAway, events_for, shifts_of, stimuli_of}
use Rattle.mc_part.specs.Ports.{LeadAway, sides}
use Rattle.mc_part.specs.Running.{AreCalm}
use Rattle.mc_part.specs.declared.part_run.PartRun.{PartRun}
use Rattle.mc_part.specs.declared.port.Port.{Port}
use Rattle.mc_signal.specs.declared.Tagged.{Tagged}
use Rattle.mc_merge.specs.Weaving.{clocks_of, log_at, logs_of, numbers_of}
use Rattle.mc_world.specs.Parts.{FitsFrame}

-- a lane with nothing under way
abbrev no_signals : List Tagged
no_signals = []

-- ---- each part is ready

-- numbers leave the sides of ports as they are
sides_kept : (boxes : ℕ) (firsts : List ℕ) (old new : List Port) → length new ≡ length old → ((c : ℕ) (port : Port) → slice_get old c ≡ Some port → slice_get new c ≡ Some (numbered_port boxes firsts c port)) → sides new ≡ sides old
sides_kept boxes firsts old new count each =
    ext_get_or true (sides new) (sides old) (length-map new side ∙ (count ∙ sym (length-map old side)))
    (λ c below. same c (subst (λ (n : ℕ). c < n) (length-map new side ∙ count) below)) where
      side : Port → Bool
      side port = port.starts_here

      element : (xs : List Port) (k : ℕ) → k < length xs → (x : Port) × (slice_get xs k ≡ Some x)
      element [] k below = absurd (omega arith)
      element (x ∷ xs) zero below = (x, refl)
      element (x ∷ xs) (suc k) below = element xs k (omega arith)

      same : (c : ℕ) → c < length old → get_or (sides new) c true ≡ get_or (sides old) c true
      same c below =
          let found = element old c below in
          let there = each c found.0 found.1 in
          get_or-map side new c (numbered_port boxes firsts c found.0) true (subst (λ (n : ℕ). c < n) (sym count) below)
          ∙ (ap side (get_or_from_slice_get new c (numbered_port boxes firsts c found.0) (numbered_port boxes firsts c found.0) there)
          ∙ sym (get_or-map side old c found.0 true below ∙ ap side (get_or_from_slice_get old c found.0 found.0 found.1)))

all_of_none : (P : Turn → Type 0) (k : ℕ) (commands : List Turn) → commands ≡ [] → AllByRecursion P (drop k commands)
all_of_none P k commands none = subst (λ (l : List Turn). AllByRecursion P (drop k l)) (sym none) (nothing k) where
  nothing : (k : ℕ) → AllByRecursion P (drop k [])
  nothing zero = tt
  nothing (suc k) = tt

leads_away : (boxes : List BoxState) (channels : List ChannelState) (lanes : List (List Tagged)) (assigned : List ℕ) (lists : List (List Port)) (runs : List PartRun) (part : ℕ) (run : PartRun)
    → HaveLaid boxes channels lanes assigned lists runs → IsLaid assigned channels lanes part (boxes_in (first_world boxes channels) assigned part) (ports_in lists part) run
    → sides (ports_in lists part) ≡ starts_in assigned channels part → LeadsAway run.part
leads_away boxes channels lanes assigned lists runs part run have one are =
    let world : WorldState = first_world boxes channels in
    let lead : LeadAway (tables_by (channels_in assigned channels part)) (length (boxes_in world assigned part)) (starts_in assigned channels part) =
    (divisions_lead_away world assigned (tables_in world assigned) (first_part world assigned) have.whole.channels_are (first_parts_are_divided world assigned have.each) part).away in
    let kept : sides run.part.ports.items ≡ starts_in assigned channels part = sides_kept _ _ (ports_in lists part) run.part.ports.items one.ports_are.count one.ports_are.each ∙ are in
    subst (λ (l : List ChannelState). LeadAway (tables_by l) (length run.part.engine.boxes) (sides run.part.ports.items)) (sym one.channels_are)
    (subst (λ (l : List BoxState). LeadAway (tables_by (channels_in assigned channels part)) (length l) (sides run.part.ports.items)) (sym one.boxes_are)
    (subst (λ (l : List Bool). LeadAway (tables_by (channels_in assigned channels part)) (length (boxes_in world assigned part)) l) (sym kept) lead))

is_idle : (boxes : List BoxState) (channels : List ChannelState) (lanes : List (List Tagged)) (assigned : List ℕ) (lists : List (List Port)) (runs : List PartRun) (part budget : ℕ) (run : PartRun)
    → HaveLaid boxes channels lanes assigned lists runs → IsLaid assigned channels lanes part (boxes_in (first_world boxes channels) assigned part) (ports_in lists part) run
    → sides (ports_in lists part) ≡ starts_in assigned channels part → SLOT_LIMIT * count_of assigned part ≤ budget → IsIdle budget run
is_idle boxes channels lanes assigned lists runs part budget run have one are room = record {
  away = leads_away boxes channels lanes assigned lists runs part run have one are;
  within = record {
    stamp = let none = one.fresh.stamp in omega arith;
    heard = let none = one.fresh.heard in omega arith;
    counts = one.fresh.counts;
    shifts = λ who. let none = one.fresh.shifts who in omega arith;
    commands = all_of_none (λ (turn : Turn). IsTrue (is_command turn.event)) 0 run.part.commands.items one.fresh.commands;
    ports = let few = ports_few assigned channels part (ports_in lists part) have.whole.channels_are are in
        let count = one.ports_are.count in
        omega arith;
  };
  log = one.fresh.log;
  stamp = one.fresh.stamp;
  heard = one.fresh.heard;
  room = subst (λ (n : ℕ). SLOT_LIMIT * n ≤ budget) (sym (ap length one.boxes_are ∙ length-map (members assigned part) (box_at (first_world boxes channels)))) room;
  known = one.fresh.known;
  allowed = all_of_none (λ (turn : Turn). IsTrue (is_allowed run.part.engine turn)) run.part.used run.part.commands.items one.fresh.commands;
}

-- no box of it can shift
is_calm : (boxes : List BoxState) (channels : List ChannelState) (lanes : List (List Tagged)) (assigned : List ℕ) (lists : List (List Port)) (runs : List PartRun) (part : ℕ) (run : PartRun)
    → HaveLaid boxes channels lanes assigned lists runs → IsLaid assigned channels lanes part (boxes_in (first_world boxes channels) assigned part) (ports_in lists part) run
    → ((who : ℕ) → who < length boxes → is_enabled (get_or boxes who no_box) Shift ≡ false) → AreCalm run.part
is_calm boxes channels lanes assigned lists runs part run have one none who below =
    let world : WorldState = first_world boxes channels in
    let long : length run.part.engine.boxes ≡ length (members assigned part) = ap length one.boxes_are ∙ length-map (members assigned part) (box_at world) in
    let inside : who < length (members assigned part) = subst (λ (n : ℕ). who < n) long below in
    let member : IsMember assigned part who (get_or (members assigned part) who 0) = member_here assigned part who inside in
    inl (ap (λ (l : List BoxState). is_enabled (get_or l who no_box) Shift) one.boxes_are
    ∙ (ap (λ (b : BoxState). is_enabled b Shift) (get_or-map (box_at world) (members assigned part) who 0 no_box inside)
    ∙ none (get_or (members assigned part) who 0) (subst (λ (n : ℕ). get_or (members assigned part) who 0 < n) have.each member.inside)))

-- ---- no command is left, and no Shift was made

no_events : (who k : ℕ) (commands : List Turn) → commands ≡ [] → events_for who (drop k commands) ≡ []
no_events who k commands none = ap (λ (l : List Turn). events_for who (drop k l)) none ∙ nothing k where
  nothing : (k : ℕ) → events_for who (drop k []) ≡ []
  nothing zero = refl
  nothing (suc k) = refl

no_stimuli_at : (boxes : List BoxState) (channels : List ChannelState) (lanes : List (List Tagged)) (assigned : List ℕ) (lists : List (List Port)) (runs : List PartRun) (part who : ℕ)
    → HaveLaid boxes channels lanes assigned lists runs → stimuli_among runs part who ≡ []
no_stimuli_at boxes channels lanes assigned lists runs part who have = elim (cases_lt part (length runs)) [
  | inl below ↦
      let at : IsRunAt boxes channels lanes assigned lists runs part = run_at boxes channels lanes assigned lists runs part have below in
      ap (λ (f : ℕ → List Event). f who) (map_there (λ (run : PartRun). stimuli_of run.part) runs part at.run no_stimuli at.there)
      ∙ no_events who at.run.part.used at.run.part.commands.items at.laid.fresh.commands
  | inr past ↦ ap (λ (f : ℕ → List Event). f who) (map_past (λ (run : PartRun). stimuli_of run.part) runs part no_stimuli past)
]

no_shifts_at : (boxes : List BoxState) (channels : List ChannelState) (lanes : List (List Tagged)) (assigned : List ℕ) (lists : List (List Port)) (runs : List PartRun) (part who : ℕ)
    → HaveLaid boxes channels lanes assigned lists runs → shifts_among runs part who ≡ 0
no_shifts_at boxes channels lanes assigned lists runs part who have = elim (cases_lt part (length runs)) [
  | inl below ↦
      let at : IsRunAt boxes channels lanes assigned lists runs part = run_at boxes channels lanes assigned lists runs part have below in
      ap (λ (f : ℕ → ℕ). f who) (map_there (λ (run : PartRun). shifts_of run.part) runs part at.run no_shifts at.there) ∙ at.laid.fresh.shifts who
  | inr past ↦ ap (λ (f : ℕ → ℕ). f who) (map_past (λ (run : PartRun). shifts_of run.part) runs part no_shifts past)
]

abbrev state_by : WorldState → (ℕ → List Event) → (ℕ → ℕ) → NetworkState
state_by world stimuli shifts = record { world = world; stimuli = stimuli; shifts = shifts }

states_same : (world other : WorldState) (stimuli : ℕ → List Event) (shifts : ℕ → ℕ) → world ≡ other → stimuli ≡ no_stimuli → shifts ≡ no_shifts
    → state_by world stimuli shifts ≡ new_state other
states_same world other stimuli shifts one two three =
    ap (λ (w : WorldState). state_by w stimuli shifts) one ∙ ap₂ (λ (s : ℕ → List Event) (t : ℕ → ℕ). state_by other s t) two three

-- ---- the network

-- what is known of a network whose parts were laid out
pub record IsLaidOut (boxes : List BoxState) (lanes : List (List Tagged)) (lists : List (List Port)) (network : DividedNetwork) : Type 0 where
  pub sound : IsSound (world_of boxes (channels_of network) lanes)
  pub frame : FitsFrame network.frame (channels_of network) (length boxes)
  pub few : length boxes ≤ NETWORK_LIMIT
  pub have : HaveLaid boxes (channels_of network) lanes network.assigned.items lists network.runs.items
  pub numbers : AreNumbersIn network.assigned.items network.numbers.items
  pub room : (part : ℕ) → part < length network.runs.items → SLOT_LIMIT * count_of network.assigned.items part ≤ turn_budget (length network.runs.items)
  pub wired : AreWired network.assigned.items (channels_of network) (length network.runs.items) (length (channels_of network)) lists network.crossings.items
  pub logs : numbers_of network.logs.items ≡ part_numbers network.assigned.items (length network.runs.items)
  pub none_logged : (part : ℕ) → log_at (logs_of network.logs.items) part ≡ []
  pub clocks : All (ShareClock (clocks_of network.logs.items)) network.crossings.items
  pub calm : IsTrue network.calm → (who : ℕ) → who < length boxes → is_enabled (get_or boxes who no_box) Shift ≡ false
  pub free : network.free ≡ false

laid_run : (boxes : List BoxState) (channels : List ChannelState) (lanes : List (List Tagged)) (assigned : List ℕ) (lists : List (List Port)) (runs : List PartRun) (part : ℕ) (run : PartRun)
    → HaveLaid boxes channels lanes assigned lists runs → slice_get runs part ≡ Some run → IsLaid assigned channels lanes part (boxes_in (first_world boxes channels) assigned part) (ports_in lists part) run
laid_run boxes channels lanes assigned lists runs part run have there =
    subst (λ (l : List BoxState). IsLaid assigned channels lanes part l (ports_in lists part) run)
    (share_is (first_world boxes channels) assigned (length runs) part have.each (slice_get_within runs part run there)) (have.laid.each part run there)

-- the world that its parts stand for
pub world_is : (boxes : List BoxState) (lanes : List (List Tagged)) (lists : List (List Port)) (network : DividedNetwork) → IsLaidOut boxes lanes lists network
    → (network_state network).world ≡ world_of boxes (channels_of network) lanes
world_is boxes lanes lists network out =
    stand_for_world boxes (map (λ (part : ℕ). no_box) network.assigned.items) (channels_of network) lanes (replicate (2 * length (channels_of network)) []) network.assigned.items lists network.runs.items out.have
    (length-map network.assigned.items (λ (part : ℕ). no_box) ∙ out.have.each) (length-replicate (2 * length (channels_of network)) no_signals)

pub state_is : (boxes : List BoxState) (lanes : List (List Tagged)) (lists : List (List Port)) (network : DividedNetwork) → IsLaidOut boxes lanes lists network
    → network_state network ≡ new_state (world_of boxes (channels_of network) lanes)
state_is boxes lanes lists network out =
    let assigned : List ℕ = network.assigned.items in
    states_same (network_state network).world (world_of boxes (channels_of network) lanes) (network_state network).stimuli (network_state network).shifts (world_is boxes lanes lists network out)
    (fun_ext (λ who. no_stimuli_at boxes (channels_of network) lanes assigned lists network.runs.items (home_at assigned who).0 (home_at assigned who).1 out.have))
    (fun_ext (λ who. no_shifts_at boxes (channels_of network) lanes assigned lists network.runs.items (home_at assigned who).0 (home_at assigned who).1 out.have))

pub is_divided_network : (boxes : List BoxState) (lanes : List (List Tagged)) (lists : List (List Port)) (network : DividedNetwork) → IsLaidOut boxes lanes lists network → IsDividedNetwork network
is_divided_network boxes lanes lists network out =
    let channels : List ChannelState = channels_of network in
    let assigned : List ℕ = network.assigned.items in
    let runs : List PartRun = network.runs.items in
    let others : List BoxState = map (λ (part : ℕ). no_box) network.assigned.items in
    let rests : List (List Tagged) = replicate (2 * length (channels_of network)) [] in
    let count : length others ≡ length boxes = length-map network.assigned.items (λ (part : ℕ). no_box) ∙ out.have.each in
    let lane_count : length rests ≡ 2 * length channels = length-replicate (2 * length (channels_of network)) no_signals in
    record {
      frame = subst (λ (n : ℕ). FitsFrame network.frame (channels_of network) n) (sym out.have.each) out.frame;
      few = subst (λ (n : ℕ). n ≤ NETWORK_LIMIT) (sym out.have.each) out.few;
      some = out.have.some;
      assigned = out.have.parts;
      numbers = out.numbers;
      logs = out.logs;
      none_logged = out.none_logged;
      channels = λ part below. channels_at boxes channels lanes assigned lists runs part out.have;
      boxes = λ part below. ap length (boxes_at boxes channels lanes assigned lists runs part out.have) ∙ length-map (members assigned part) (box_at (first_world boxes channels));
      laid = are_layout boxes others channels lanes rests assigned lists runs out.have count lane_count;
      empty = none_waits boxes others channels lanes rests assigned lists runs out.have count lane_count;
      crossings = out.wired.crossings_are;
      joined = all_joined boxes channels lanes assigned lists runs network.crossings.items out.have out.wired;
      ported = λ part run there port below.
          let laid = laid_run boxes channels lanes assigned lists runs part run out.have there in
          out.wired.ported part port (subst (λ (k : ℕ). port < k) laid.ports_are.count below);
      clocks = out.clocks;
      idle = λ part run there.
          let below : part < length runs = slice_get_within runs part run there in
          is_idle boxes channels lanes assigned lists runs part (turn_budget (length runs)) run out.have (laid_run boxes channels lanes assigned lists runs part run out.have there)
          (all_sides assigned channels (length runs) lists network.crossings.items out.wired part below) (out.room part below);
      calm = λ is part run there. is_calm boxes channels lanes assigned lists runs part run out.have (laid_run boxes channels lanes assigned lists runs part run out.have there) (out.calm is);
      sound = subst IsSound (sym (world_is boxes lanes lists network out)) out.sound;
      free = λ on. absurd (true≢false (sym on ∙ out.free));
    }

-- ---- as it is known once all is made

pub is_laid_out : (boxes : List BoxState) (lanes laid_lanes : List (List Tagged)) (lists : List (List Port)) (network : DividedNetwork) (count : ℕ) (wired_channels laid_channels : List ChannelState) (crossings : List Crossing)
    → IsSound (world_of boxes (channels_of network) lanes) → FitsFrame network.frame (channels_of network) (length boxes) → length boxes ≤ NETWORK_LIMIT → AreWhole boxes (channels_of network) lanes
    → length lanes ≡ 2 * length (channels_of network) → length network.assigned.items ≡ length boxes
    → IsDivision (record { assigned = network.assigned; numbers = network.numbers; count = count })
    → AreWired network.assigned.items wired_channels count (length wired_channels) lists network.crossings.items → wired_channels ≡ channels_of network
    → AreLaid network.assigned.items laid_channels laid_lanes (share_of boxes network.assigned.items) lists count network.runs.items → laid_channels ≡ channels_of network → laid_lanes ≡ lanes
    → numbers_of network.logs.items ≡ part_numbers network.assigned.items count → ((part : ℕ) → log_at (logs_of network.logs.items) part ≡ []) → All (ShareClock (clocks_of network.logs.items)) crossings
    → crossings ≡ network.crossings.items → (IsTrue network.calm → (who : ℕ) → who < length boxes → is_enabled (get_or boxes who no_box) Shift ≡ false) → network.free ≡ false → IsLaidOut boxes lanes lists network
is_laid_out boxes lanes laid_lanes lists network count wired_channels laid_channels crossings sound frame few whole lane_count each division wired wired_is laid laid_is lanes_is logs none clocks crossings_is calm free =
    let assigned : List ℕ = network.assigned.items in
    let channels : List ChannelState = channels_of network in
    let runs : List PartRun = network.runs.items in
    let count_is : count ≡ length runs = sym laid.count_is in
    let laid_here : AreLaid assigned channels lanes (share_of boxes assigned) lists (length runs) runs =
    subst (λ (n : ℕ). AreLaid assigned channels lanes (share_of boxes assigned) lists n runs) count_is
    (subst (λ (l : List ChannelState). AreLaid assigned l lanes (share_of boxes assigned) lists count runs) laid_is
    (subst (λ (l : List (List Tagged)). AreLaid assigned laid_channels l (share_of boxes assigned) lists count runs) lanes_is laid)) in
    record {
      sound = sound;
      frame = frame;
      few = few;
      have = record {
        whole = whole;
        lane_count = lane_count;
        each = each;
        some = subst (λ (n : ℕ). 0 < n) count_is division.some;
        parts = subst (λ (n : ℕ). All (λ (part : ℕ). part < n) assigned) count_is division.parts;
        laid = laid_here;
      };
      numbers = division.numbers;
      room = subst (λ (n : ℕ). (part : ℕ) → part < n → SLOT_LIMIT * count_of assigned part ≤ turn_budget n) count_is division.room;
      wired = subst (λ (n : ℕ). AreWired assigned channels n (length channels) lists network.crossings.items) count_is
          (subst (λ (l : List ChannelState). AreWired assigned l count (length l) lists network.crossings.items) wired_is wired);
      logs = logs ∙ ap (part_numbers assigned) count_is;
      none_logged = none;
      clocks = subst (λ (l : List Crossing). All (ShareClock (clocks_of network.logs.items)) l) crossings_is clocks;
      calm = calm;
      free = free;
    }
