-- Ports as they take and give, and what that comes to for a part.
use Rattle.std.proofs.Common.{IsFalse, inl, inr, ◌≡◌, ◌≢◌, ◌<◌, ◌≤◌, ◌/◌, ◌==◌, if◌then◌else◌, max, zero, suc, true, false, Bool, ℕ, Option, Some, List, [], ◌∷◌, ◌++◌, drop, length, map, get_or, refl, ap, sym, ◌∙◌, subst, arith}
use Rattle.std.specs.List.{slice_get}
use Rattle.std.proofs.Math.ListN.{get_or-map, set}
use Rattle.std.proofs.Math.Nat.{le-max_left, le-max_right}
use Rattle.std.proofs.Math.Seq.{map-set_same}
use Rattle.std.proofs.lemmas.Bool.{cases_eq}
use Rattle.std.proofs.lemmas.Grind.{common_steps}
use Rattle.std.proofs.lemmas.List.{append-nil, get_or-set_other, get_or-set_same, length-map, length-set}
use Rattle.std.proofs.lemmas.Option.{get_or_from_slice_get, slice_get-get_or, slice_get_read, slice_get_within}
use Rattle.std.specs.Vec.{with_item}
use Rattle.mc_signal.specs.declared.Tagged.{Tagged}
use Rattle.mc_merge.specs.Lanes.{leads_from, leads_to}
use Rattle.mc_model.specs.Worlds.{WorldState}
use Rattle.mc_merge.specs.Account.{part_lane}
use Rattle.mc_merge.specs.Steps.{ComesIn, GoesOut, at_lane}
use Rattle.mc_merge.specs.Turns.{no_items}
use Rattle.mc_merge.proofs.ClockJoins.{rings_are_clocked}
use Rattle.mc_merge.proofs.Rings.{coming_is_work, going_is_work}
use Rattle.mc_port.specs.Ends.{RingName, given, in_ring, known, out_ring, received}
use Rattle.mc_port.specs.declared.ends.InPort.{InPort}
use Rattle.mc_port.specs.declared.ends.OutPort.{OutPort}
use Rattle.mc_port.specs.declared.stamped.Stamped.{Stamped}
use Rattle.mc_world.specs.Pumping.{is_slot_at, with_last, without_first}
use Rattle.mc_part.specs.Running.{MeetsStray}
use Rattle.mc_part.specs.Parts.{HasRun, IsWithin, LeadsAway, Runs, no_retries, state_of, tables_of}
use Rattle.mc_part.specs.Ports.{IsFirst, IsSeen, entry_slot, given_at, given_by, into_lane, out_lane, received_at, received_by, rings_of, sides}
use Rattle.mc_part.specs.declared.part.Part.{Part}
use Rattle.mc_part.specs.declared.port.Port.{Port}
use Rattle.mc_part.proofs.Draining.{heard_from}
use Rattle.mc_part.proofs.Ran.{no_uses, runs_none, still_run}
use Rattle.mc_part.proofs.Uses.{IsIdle}
use Rattle.mc_part.proofs.Spanning.{by_port}

-- ---- a list in which one port has changed

get-set_same : {A : Type 0} (items : List A) (k : ℕ) (old new : A) → slice_get items k ≡ Some old → slice_get (set items k new) k ≡ Some new
get-set_same [] k old new is = absurd (cc)
get-set_same (first ∷ items) zero old new is = refl
get-set_same (first ∷ items) (suc k) old new is = get-set_same items k old new is

get-set_other : {A : Type 0} (items : List A) (k i : ℕ) (new : A) → i ≢ k → slice_get (set items k new) i ≡ slice_get items i
get-set_other [] k i new apart = refl
get-set_other (first ∷ items) zero zero new apart = absurd (apart refl)
get-set_other (first ∷ items) zero (suc i) new apart = refl
get-set_other (first ∷ items) (suc k) zero new apart = refl
get-set_other (first ∷ items) (suc k) (suc i) new apart = get-set_other items k i new (λ same. apart (ap (λ (n : ℕ). suc n) same))

-- one port takes the place of another at its end of its rings
pub record IsAt (a b : List Port) (channel : ℕ) (port port_2 : Port) : Type 0 where
  pub there : slice_get a channel ≡ Some port
  pub new : b ≡ set a channel port_2
  pub starts : port_2.starts_here ≡ port.starts_here
  pub in_ring : in_ring port_2.from ≡ in_ring port.from
  pub out_ring : out_ring port_2.to ≡ out_ring port.to
  pub kept : port_2 ≡ record port { from = port_2.from; to = port_2.to }

-- a port of which only one end has changed
pub kept_from : (port port_2 : Port) → port_2 ≡ record port { from = port_2.from } → port_2.to ≡ port.to → port_2 ≡ record port { from = port_2.from; to = port_2.to }
kept_from port port_2 kept same = kept ∙ ap (λ (end : OutPort). record port { from = port_2.from; to = end }) (sym same)

pub kept_to : (port port_2 : Port) → port_2 ≡ record port { to = port_2.to } → port_2.from ≡ port.from → port_2 ≡ record port { from = port_2.from; to = port_2.to }
kept_to port port_2 kept same = kept ∙ ap (λ (end : InPort). record port { from = end; to = port_2.to }) (sym same)

same_sides : (a b : List Port) (channel : ℕ) (port port_2 : Port) → IsAt a b channel port port_2 → sides b ≡ sides a
same_sides a b channel port port_2 at =
    ap (λ (l : List Port). sides l) at.new
    ∙ map-set_same (λ (p : Port). p.starts_here) a channel port_2 port (at.starts ∙ ap (λ (p : Port). p.starts_here) (sym (get_or_from_slice_get a channel port port at.there)))

same_rings : (a b : List Port) (channel : ℕ) (port port_2 : Port) → IsAt a b channel port port_2 → map rings_of b ≡ map rings_of a
same_rings a b channel port port_2 at =
    let rings : rings_of port_2 ≡ rings_of port = ap (λ (r : RingName). ((r, out_ring port_2.to), (port_2.holder, port_2.first))) at.in_ring
    ∙ (ap (λ (r : RingName). ((in_ring port.from, r), (port_2.holder, port_2.first))) at.out_ring ∙ ap (λ (p : Port). ((in_ring port.from, out_ring port.to), (p.holder, p.first))) at.kept) in
    ap (λ (l : List Port). map rings_of l) at.new
    ∙ map-set_same rings_of a channel port_2 port (rings ∙ ap rings_of (sym (get_or_from_slice_get a channel port port at.there)))

side_of : (a : List Port) (channel : ℕ) (port : Port) → slice_get a channel ≡ Some port → get_or (sides a) channel true ≡ port.starts_here
side_of a channel port there =
    let below = slice_get_within a channel port there in
    sym (get_or_from_slice_get (sides a) channel (get_or (sides a) channel true) port.starts_here (slice_get-get_or (sides a) channel true (omega (arith, below, length-map a (λ (p : Port). p.starts_here)))))
    ∙ (get_or-map (λ (p : Port). p.starts_here) a channel port ∙ ap (λ (p : Port). p.starts_here) (get_or_from_slice_get a channel port port there))

-- ---- lanes of ports

into_half : (channel : ℕ) (starts : Bool) → into_lane channel starts / 2 ≡ channel
into_half channel true = omega arith
into_half channel false = omega arith

out_half : (channel : ℕ) (starts : Bool) → out_lane channel starts / 2 ≡ channel
out_half channel true = omega arith
out_half channel false = omega arith

if_same : (lane k : ℕ) (items : List Stamped) → lane ≡ k → (if lane == k then items else []) ≡ items
if_same lane k items same = grind (arith, common_steps)

if_apart : (lane k : ℕ) (items : List Stamped) → lane ≢ k → (if lane == k then items else []) ≡ []
if_apart lane k items apart = grind (arith, common_steps)

received_own : (a : List Port) (channel : ℕ) (port : Port) → slice_get a channel ≡ Some port → received_at a (into_lane channel port.starts_here) ≡ received port.from
received_own a channel port there =
    let half = into_half channel port.starts_here in
    ap (λ (n : ℕ). received_by (slice_get a n) (into_lane channel port.starts_here)) half
    ∙ (ap (λ (o : Option Port). received_by o (into_lane channel port.starts_here)) there
    ∙ if_same (into_lane channel port.starts_here) (into_lane (into_lane channel port.starts_here / 2) port.starts_here) (received port.from) (ap (λ (n : ℕ). into_lane n port.starts_here) (sym half)))

given_own : (a : List Port) (channel : ℕ) (port : Port) → slice_get a channel ≡ Some port → given_at a (out_lane channel port.starts_here) ≡ given port.to
given_own a channel port there =
    let half = out_half channel port.starts_here in
    ap (λ (n : ℕ). given_by (slice_get a n) (out_lane channel port.starts_here)) half
    ∙ (ap (λ (o : Option Port). given_by o (out_lane channel port.starts_here)) there
    ∙ if_same (out_lane channel port.starts_here) (out_lane (out_lane channel port.starts_here / 2) port.starts_here) (given port.to) (ap (λ (n : ℕ). out_lane n port.starts_here) (sym half)))

-- any other lane's port, or none, is as it was
received_elsewhere : (a b : List Port) (channel : ℕ) (port port_2 : Port) (lane : ℕ) → IsAt a b channel port port_2 → lane ≢ into_lane channel port.starts_here → received_at b lane ≡ received_at a lane
received_elsewhere a b channel port port_2 lane at apart = elim (cases_eq (lane / 2) channel) [
  | inl same ↦
      let own : lane ≢ into_lane (lane / 2) port.starts_here = λ is. apart (is ∙ ap (λ (n : ℕ). into_lane n port.starts_here) same) in
      let own_2 : lane ≢ into_lane (lane / 2) port_2.starts_here = λ is. own (is ∙ ap (λ (s : Bool). into_lane (lane / 2) s) at.starts) in
      ap (λ (l : List Port). received_at l lane) at.new
      ∙ (ap (λ (n : ℕ). received_by (slice_get (set a channel port_2) n) lane) same
      ∙ (ap (λ (o : Option Port). received_by o lane) (get-set_same a channel port port_2 at.there)
      ∙ (if_apart lane (into_lane (lane / 2) port_2.starts_here) (received port_2.from) own_2
      ∙ sym (ap (λ (n : ℕ). received_by (slice_get a n) lane) same ∙ (ap (λ (o : Option Port). received_by o lane) at.there ∙ if_apart lane (into_lane (lane / 2) port.starts_here) (received port.from) own)))))
  | inr other ↦ ap (λ (l : List Port). received_at l lane) at.new ∙ ap (λ (o : Option Port). received_by o lane) (get-set_other a channel (lane / 2) port_2 other)
]

given_elsewhere : (a b : List Port) (channel : ℕ) (port port_2 : Port) (lane : ℕ) → IsAt a b channel port port_2 → lane ≢ out_lane channel port.starts_here → given_at b lane ≡ given_at a lane
given_elsewhere a b channel port port_2 lane at apart = elim (cases_eq (lane / 2) channel) [
  | inl same ↦
      let own : lane ≢ out_lane (lane / 2) port.starts_here = λ is. apart (is ∙ ap (λ (n : ℕ). out_lane n port.starts_here) same) in
      let own_2 : lane ≢ out_lane (lane / 2) port_2.starts_here = λ is. own (is ∙ ap (λ (s : Bool). out_lane (lane / 2) s) at.starts) in
      ap (λ (l : List Port). given_at l lane) at.new
      ∙ (ap (λ (n : ℕ). given_by (slice_get (set a channel port_2) n) lane) same
      ∙ (ap (λ (o : Option Port). given_by o lane) (get-set_same a channel port port_2 at.there)
      ∙ (if_apart lane (out_lane (lane / 2) port_2.starts_here) (given port_2.to) own_2
      ∙ sym (ap (λ (n : ℕ). given_by (slice_get a n) lane) same ∙ (ap (λ (o : Option Port). given_by o lane) at.there ∙ if_apart lane (out_lane (lane / 2) port.starts_here) (given port.to) own)))))
  | inr other ↦ ap (λ (l : List Port). given_at l lane) at.new ∙ ap (λ (o : Option Port). given_by o lane) (get-set_other a channel (lane / 2) port_2 other)
]

new_own : (a b : List Port) (channel : ℕ) (port port_2 : Port) → IsAt a b channel port port_2 → slice_get b channel ≡ Some port_2
new_own a b channel port port_2 at = ap (λ (l : List Port). slice_get l channel) at.new ∙ get-set_same a channel port port_2 at.there

-- what its port received is so much more, or none
received_then : (a b : List Port) (channel : ℕ) (port port_2 : Port) (items : List Stamped) → IsAt a b channel port port_2 → received port_2.from ≡ received port.from ++ items
    → received_at b (into_lane channel port.starts_here) ≡ received_at a (into_lane channel port.starts_here) ++ items
received_then a b channel port port_2 items at more =
    ap (λ (s : Bool). received_at b (into_lane channel s)) (sym at.starts)
    ∙ (received_own b channel port_2 (new_own a b channel port port_2 at) ∙ (more ∙ ap (λ (l : List Stamped). l ++ items) (sym (received_own a channel port at.there))))

given_then : (a b : List Port) (channel : ℕ) (port port_2 : Port) (items : List Stamped) → IsAt a b channel port port_2 → given port_2.to ≡ given port.to ++ items
    → given_at b (out_lane channel port.starts_here) ≡ given_at a (out_lane channel port.starts_here) ++ items
given_then a b channel port port_2 items at more =
    ap (λ (s : Bool). given_at b (out_lane channel s)) (sym at.starts)
    ∙ (given_own b channel port_2 (new_own a b channel port port_2 at) ∙ (more ∙ ap (λ (l : List Stamped). l ++ items) (sym (given_own a channel port at.there))))

received_stays : (a b : List Port) (channel : ℕ) (port port_2 : Port) → IsAt a b channel port port_2 → received port_2.from ≡ received port.from → (lane : ℕ) → received_at b lane ≡ received_at a lane
received_stays a b channel port port_2 at same lane = elim (cases_eq lane (into_lane channel port.starts_here)) [
  | inl is ↦ subst (λ (n : ℕ). received_at b n ≡ received_at a n) (sym is)
      (received_then a b channel port port_2 [] at (same ∙ sym (append-nil (received port.from))) ∙ append-nil (received_at a (into_lane channel port.starts_here)))
  | inr apart ↦ received_elsewhere a b channel port port_2 lane at apart
]

given_stays : (a b : List Port) (channel : ℕ) (port port_2 : Port) → IsAt a b channel port port_2 → given port_2.to ≡ given port.to → (lane : ℕ) → given_at b lane ≡ given_at a lane
given_stays a b channel port port_2 at same lane = elim (cases_eq lane (out_lane channel port.starts_here)) [
  | inl is ↦ subst (λ (n : ℕ). given_at b n ≡ given_at a n) (sym is)
      (given_then a b channel port port_2 [] at (same ∙ sym (append-nil (given port.to))) ∙ append-nil (given_at a (out_lane channel port.starts_here)))
  | inr apart ↦ given_elsewhere a b channel port port_2 lane at apart
]

-- ---- a part whose port has looked, or found no place

pub idle_run : (a b : Part) (channel : ℕ) (port port_2 : Port) → IsAt a.ports.items b.ports.items channel port port_2 → received port_2.from ≡ received port.from → given port_2.to ≡ given port.to
    → state_of b ≡ state_of a → b.engine.channels ≡ a.engine.channels → b.log.items ≡ a.log.items → IsWithin a → IsIdle a b → HasRun a b no_items no_items no_retries
idle_run a b channel port port_2 at received_same given_same state channels log within idle = still_run a b within (record {
  idle = idle;
  state = state;
  channels = channels;
  log = log;
  received = received_stays a.ports.items b.ports.items channel port port_2 at received_same;
  given = given_stays a.ports.items b.ports.items channel port port_2 at given_same;
  sides = same_sides a.ports.items b.ports.items channel port port_2 at;
  rings = same_rings a.ports.items b.ports.items channel port port_2 at;
})

-- ---- one that has taken an item in

pub came : (a b : Part) (channel : ℕ) (port port_2 : Port) (item : Stamped) → IsAt a.ports.items b.ports.items channel port port_2 → received port_2.from ≡ received port.from ++ item ∷ [] → given port_2.to ≡ given port.to
    → b.engine ≡ with_last a.engine (into_lane channel port.starts_here) (record { tunnel = item.tunnel; signal = item.signal }) → into_lane channel port.starts_here < length a.engine.lanes
    → b.stamp ≡ a.stamp → b.heard ≡ max a.heard item.stamp → b.log.items ≡ a.log.items → LeadsAway a → IsWithin a → IsIdle a b → HasRun a b (at_lane (into_lane channel port.starts_here) (item ∷ [])) no_items no_retries
came a b channel port port_2 item at more given_same engine inside stamp heard log away within idle =
    let lane : ℕ = into_lane channel port.starts_here in
    let below : channel < length (sides a.ports.items) = omega (arith, slice_get_within a.ports.items channel port at.there, length-map a.ports.items (λ (p : Port). p.starts_here)) in
    let lanes : b.engine.lanes ≡ set a.engine.lanes lane (part_lane (state_of a) lane ++ record { tunnel = item.tunnel; signal = item.signal } ∷ []) = ap (λ (w : WorldState). w.lanes) engine in
    let comes : ComesIn (tables_of a) (state_of a) (state_of b) lane (item ∷ []) = record {
      off = subst (λ (s : Bool). length a.engine.boxes ≤ leads_from (tables_of a) (into_lane channel s)) (side_of a.ports.items channel port at.there) (away channel below).0;
      boxes = ap (λ (w : WorldState). w.boxes) engine;
      lane_count = ap (λ (l : List (List Tagged)). length l) lanes ∙ length-set a.engine.lanes lane _;
      lane_is = ap (λ (l : List (List Tagged)). get_or l lane []) lanes ∙ get_or-set_same a.engine.lanes lane _ [] inside;
      others = λ other apart. ap (λ (l : List (List Tagged)). get_or l other []) lanes ∙ get_or-set_other a.engine.lanes lane other _ [] apart;
      stamp = stamp;
      more = subst (λ (n : ℕ). a.heard ≤ n) (sym heard) (le-max_left a.heard item.stamp);
      heard = (subst (λ (n : ℕ). item.stamp ≤ n) (sym heard) (le-max_right a.heard item.stamp), tt);
      from = heard_from [] item a.heard a.heard b.heard heard (inl refl);
    } in
    record {
      log = [];
      spanned = record {
        work = coming_is_work (tables_of a) (state_of a) (state_of b) lane (item ∷ []) comes;
        clocked = (rings_are_clocked (tables_of a) (state_of a) (state_of b) lane (item ∷ [])).0 comes;
        known = tt;
        received = by_port (received_at a.ports.items) (received_at b.ports.items) lane (item ∷ []) (received_then a.ports.items b.ports.items channel port port_2 (item ∷ []) at more)
            (λ other apart. received_elsewhere a.ports.items b.ports.items channel port port_2 other at apart);
        given = λ other. given_stays a.ports.items b.ports.items channel port port_2 at given_same other ∙ sym (append-nil (given_at a.ports.items other));
      };
      channels = ap (λ (w : WorldState). w.channels) engine;
      logged = log ∙ sym (append-nil a.log.items);
      uses = no_uses a b within idle;
      commands = idle.commands;
      sides = same_sides a.ports.items b.ports.items channel port port_2 at;
      rings = same_rings a.ports.items b.ports.items channel port port_2 at;
    }

-- ---- one that has given one away

pub went : (a b : Part) (channel : ℕ) (port port_2 : Port) (item : Stamped) → IsAt a.ports.items b.ports.items channel port port_2 → given port_2.to ≡ given port.to ++ item ∷ [] → received port_2.from ≡ received port.from
    → b.engine ≡ without_first a.engine (out_lane channel port.starts_here) → out_lane channel port.starts_here < length a.engine.lanes
    → part_lane (state_of a) (out_lane channel port.starts_here) ≡ record { tunnel = item.tunnel; signal = item.signal } ∷ drop 1 (part_lane (state_of a) (out_lane channel port.starts_here)) → item.stamp ≡ a.stamp
    → b.stamp ≡ a.stamp → b.heard ≡ a.heard → b.log.items ≡ a.log.items → LeadsAway a → IsWithin a → IsIdle a b → HasRun a b no_items (at_lane (out_lane channel port.starts_here) (item ∷ [])) no_retries
went a b channel port port_2 item at more received_same engine inside first stamped stamp heard log away within idle =
    let lane : ℕ = out_lane channel port.starts_here in
    let below : channel < length (sides a.ports.items) = omega (arith, slice_get_within a.ports.items channel port at.there, length-map a.ports.items (λ (p : Port). p.starts_here)) in
    let lanes : b.engine.lanes ≡ set a.engine.lanes lane (drop 1 (part_lane (state_of a) lane)) = ap (λ (w : WorldState). w.lanes) engine in
    let goes : GoesOut (tables_of a) (state_of a) (state_of b) lane (item ∷ []) = record {
      away = subst (λ (s : Bool). length a.engine.boxes ≤ leads_to (tables_of a) (out_lane channel s)) (side_of a.ports.items channel port at.there) (away channel below).1;
      boxes = ap (λ (w : WorldState). w.boxes) engine;
      lane_count = ap (λ (l : List (List Tagged)). length l) lanes ∙ length-set a.engine.lanes lane _;
      lane_is = first ∙ ap (λ (l : List Tagged). record { tunnel = item.tunnel; signal = item.signal } ∷ l) (sym (ap (λ (l : List (List Tagged)). get_or l lane []) lanes ∙ get_or-set_same a.engine.lanes lane _ [] inside));
      others = λ other apart. ap (λ (l : List (List Tagged)). get_or l other []) lanes ∙ get_or-set_other a.engine.lanes lane other _ [] apart;
      stamp = stamp;
      heard = heard;
      stamped = (stamped, tt);
    } in
    record {
      log = [];
      spanned = record {
        work = going_is_work (tables_of a) (state_of a) (state_of b) lane (item ∷ []) goes;
        clocked = (rings_are_clocked (tables_of a) (state_of a) (state_of b) lane (item ∷ [])).1 goes;
        known = tt;
        received = λ other. received_stays a.ports.items b.ports.items channel port port_2 at received_same other ∙ sym (append-nil (received_at a.ports.items other));
        given = by_port (given_at a.ports.items) (given_at b.ports.items) lane (item ∷ []) (given_then a.ports.items b.ports.items channel port port_2 (item ∷ []) at more)
            (λ other apart. given_elsewhere a.ports.items b.ports.items channel port port_2 other at apart);
      };
      channels = ap (λ (w : WorldState). w.channels) engine;
      logged = log ∙ sym (append-nil a.log.items);
      uses = no_uses a b within idle;
      commands = idle.commands;
      sides = same_sides a.ports.items b.ports.items channel port port_2 at;
      rings = same_rings a.ports.items b.ports.items channel port port_2 at;
    }

-- ---- what was read of a part

pub port_read : (ports : List Port) (channel : ℕ) (read : Port) → channel < length ports → read ≡ get_or ports channel read → slice_get ports channel ≡ Some read
port_read ports channel read below is = slice_get_read ports (length ports) channel read refl below is

pub one_port : (ports : List Port) (channel : ℕ) (read port : Port) → slice_get ports channel ≡ Some port → read ≡ get_or ports channel read → read ≡ port
one_port ports channel read port there is = is ∙ get_or_from_slice_get ports channel port read there

-- nothing but its room has changed where its engine is the same
pub engine_runs : (a : Part) (engine : WorldState) → IsWithin a → engine ≡ a.engine → Runs a (record a { engine = engine }) no_retries
engine_runs a engine within same = subst (λ (w : WorldState). Runs a (record a { engine = w }) no_retries) (sym same) (runs_none a within)

-- a port that has looked
pub seen_run : (a : Part) (channel : ℕ) (port port_2 : Port) → IsWithin a → slice_get a.ports.items channel ≡ Some port → IsSeen port port_2 → Runs a (record a { ports = with_item a.ports channel port_2 }) no_retries
seen_run a channel port port_2 within there seen =
    let b : Part = record a { ports = with_item a.ports channel port_2 } in
    let at : IsAt a.ports.items b.ports.items channel port port_2 = record { there = there; new = refl; starts = seen.starts; in_ring = seen.ring; out_ring = ap (λ (p : OutPort). out_ring p) seen.to; kept = seen.kept } in
    record {
      gave = no_items;
      put = no_items;
      run = idle_run a b channel port port_2 at seen.received (ap (λ (p : OutPort). given p) seen.to) refl refl refl within (record { used = refl; commands = refl; shifts = refl });
    }

pub new_first : (ports : List Port) (channel : ℕ) (port port_2 : Port) (item : Stamped) → slice_get ports channel ≡ Some port → slice_get (known port_2.from) 0 ≡ Some item → IsFirst (set ports channel port_2) channel item
new_first ports channel port port_2 item there first = record { port = port_2; there = get-set_same ports channel port port_2 there; first = first }

-- an item that the engine refuses
pub meets_stray : (a : Part) (engine : WorldState) (channel : ℕ) (read port : Port) (item : Stamped) (lane slot : ℕ) → slice_get a.ports.items channel ≡ Some port → slice_get (known port.from) 0 ≡ Some item → read ≡ port → engine ≡ a.engine
    → lane ≡ into_lane channel read.starts_here → slot ≡ entry_slot read item.tunnel → IsFalse (is_slot_at a.engine lane item.tunnel slot) → MeetsStray (record a { engine = engine }) channel
meets_stray a engine channel read port item lane slot there first same world lane_is slot_is refused =
    let test : is_slot_at engine (into_lane channel port.starts_here) item.tunnel (entry_slot port item.tunnel) ≡ is_slot_at a.engine lane item.tunnel slot =
    ap (λ (w : WorldState). is_slot_at w (into_lane channel port.starts_here) item.tunnel (entry_slot port item.tunnel)) world
    ∙ (ap (λ (p : Port). is_slot_at a.engine (into_lane channel p.starts_here) item.tunnel (entry_slot p item.tunnel)) (sym same)
    ∙ (ap (λ (n : ℕ). is_slot_at a.engine n item.tunnel (entry_slot read item.tunnel)) (sym lane_is) ∙ ap (λ (n : ℕ). is_slot_at a.engine lane item.tunnel n) (sym slot_is))) in
    record { port = port; item = item; there = there; first = first; stray = inr (subst (λ (b : Bool). IsFalse b) (sym test) refused) }
