-- A network whose parts have other commands, or counts of Shifts, and are the same else.
use Rattle.std.proofs.Common.{◌≡◌, ◌<◌, ◌≤◌, ◌*◌, Bool, ℕ, All, IsTrue, Some, List, [], drop, length, map, get_or, slice_get, ap, sym, ◌∙◌, subst, Vec, Global}
use Rattle.std.specs.List.{AllByRecursion}
use Rattle.std.proofs.lemmas.Option.{slice_get_within}
use Rattle.mc_box.specs.declared.event.Turn.{Turn}
use Rattle.mc_box.specs.declared.limit.TheConstants.{SLOT_LIMIT}
use Rattle.mc_model.specs.Paths.{has_ring}
use Rattle.mc_model.specs.Shapes.{is_allowed}
use Rattle.mc_model.specs.Sound.{IsSound}
use Rattle.mc_model.specs.Worlds.{WorldState}
use Rattle.mc_merge.specs.Account.{PartState}
use Rattle.mc_merge.specs.Phases.{AreEmptied, IsLayout, stands_for}
use Rattle.mc_merge.specs.declared.log.Made.{Made}
use Rattle.mc_part.specs.Divisions.{part_numbers}
use Rattle.mc_lane.specs.Queue.{Queue}
use Rattle.mc_part.specs.Parts.{IsWithin, state_of, tables_of}
use Rattle.mc_part.specs.Phases.{EachOf, IsKnown}
use Rattle.mc_part.specs.Ports.{LeadAway, rings_of, sides}
use Rattle.mc_part.specs.Running.{AreCalm}
use Rattle.mc_part.specs.declared.part.Part.{Part}
use Rattle.mc_part.specs.declared.part_run.PartRun.{PartRun}
use Rattle.mc_part.specs.declared.port.Port.{Port}
use Rattle.mc_divided.specs.Networks.{AreJoined, IsDividedNetwork, IsIdle, IsJoined, base_of, network_layout, network_state, no_part, no_tables, states_among, tables_among, turn_budget, world_in}
use Rattle.mc_divided.specs.Commanding.{AreRecommanded, IsRecommanded}
use Rattle.mc_divided.specs.declared.network.DividedNetwork.{DividedNetwork}
use Rattle.mc_divided.proofs.Finished.{KeepsPorts, joined_after}
use Rattle.mc_divided.proofs.PartsBy.{run_there}
use Rattle.mc_divided.proofs.Swapped.{maps_same}

pub states_same : (old new : List PartRun) → AreRecommanded old new → states_among new ≡ states_among old
states_same old new same = ap (λ (l : List PartState). λ part. get_or l part no_part) (maps_same (λ (run : PartRun). state_of run.part) (λ (run : PartRun). state_of run.part) new old same.count (λ i b a q p.
    let is : IsRecommanded a.part b.part = same.each i a b p q in
    ap (λ (w : WorldState). record { boxes = w.boxes; lanes = w.lanes; stamp = b.part.stamp; heard = b.part.heard }) is.engine
    ∙ (ap (λ (k : ℕ). record { boxes = a.part.engine.boxes; lanes = a.part.engine.lanes; stamp = k; heard = b.part.heard }) is.stamp
    ∙ ap (λ (k : ℕ). record { boxes = a.part.engine.boxes; lanes = a.part.engine.lanes; stamp = a.part.stamp; heard = k }) is.heard)))

pub tables_same : (old new : List PartRun) → AreRecommanded old new → tables_among new ≡ tables_among old
tables_same old new same = ap (λ (l : List WorldState). λ part. get_or l part no_tables) (maps_same (λ (run : PartRun). tables_of run.part) (λ (run : PartRun). tables_of run.part) new old same.count (λ i b a q p.
    ap (λ (w : WorldState). record { boxes = []; channels = w.channels; lanes = [] }) (same.each i a b p q).engine))

keeps : (a b : Part) → IsRecommanded a b → KeepsPorts a b
keeps a b is = record {
  channels = ap (λ (w : WorldState). w.channels) is.engine;
  rings = ap (λ (v : Vec Port Global). map rings_of v.items) is.ports;
  sides = ap (λ (v : Vec Port Global). sides v.items) is.ports;
}

joined_same : (a b d e : Part) (s t : ℕ) → AreJoined a b s t → IsRecommanded a d → IsRecommanded b e → AreJoined d e s t
joined_same a b d e s t joined one two =
    joined_after a b d e s t joined (keeps a d one) (keeps b e two) joined.out joined.into (ap (λ (v : Vec Port Global). slice_get v.items s) one.ports ∙ joined.sends) (ap (λ (v : Vec Port Global). slice_get v.items t) two.ports ∙ joined.takes) joined.even

-- what holds of each part beside
pub record AreFit (runs : List PartRun) (calm : Bool) : Type 0 where
  pub within : (i : ℕ) (b : PartRun) → slice_get runs i ≡ Some b → IsWithin b.part
  pub allowed : (i : ℕ) (b : PartRun) → slice_get runs i ≡ Some b → AllByRecursion (λ (turn : Turn). IsTrue (is_allowed b.part.engine turn)) (drop b.part.used b.part.commands.items)
  pub calm_is : IsTrue calm → EachOf (λ (run : PartRun). AreCalm run.part) runs
  pub known : EachOf IsKnown runs

pub world_same : (n : DividedNetwork) (runs : Vec PartRun Global) (calm : Bool) → AreRecommanded n.runs.items runs.items → world_in (record n { runs = runs; calm = calm }) ≡ world_in n
world_same n runs calm same = ap (λ (states : ℕ → PartState). stands_for (base_of n) (network_layout n) states) (states_same n.runs.items runs.items same)

pub divided_same : (n : DividedNetwork) (runs : Vec PartRun Global) (calm : Bool) → IsDividedNetwork n → AreRecommanded n.runs.items runs.items → AreFit runs.items calm → IsDividedNetwork (record n { runs = runs; calm = calm })
divided_same n runs calm divided same fit =
    let states : states_among runs.items ≡ states_among n.runs.items = states_same n.runs.items runs.items same in
    let tables : tables_among runs.items ≡ tables_among n.runs.items = tables_same n.runs.items runs.items same in
    record {
      frame = divided.frame;
      few = divided.few;
      some = subst (λ (k : ℕ). 0 < k) (sym same.count) divided.some;
      assigned = subst (λ (k : ℕ). All (λ part. part < k) n.assigned.items) (sym same.count) divided.assigned;
      numbers = divided.numbers;
      logs = divided.logs ∙ ap (λ (k : ℕ). part_numbers n.assigned.items k) (sym same.count);
      none_logged = divided.none_logged;
      channels = λ part inside. ap (λ (f : ℕ → WorldState). (f part).channels) tables ∙ divided.channels part (subst (λ (k : ℕ). part < k) same.count inside);
      boxes = λ part inside. ap (λ (f : ℕ → PartState). length (f part).boxes) states ∙ divided.boxes part (subst (λ (k : ℕ). part < k) same.count inside);
      laid = subst (λ (f : ℕ → WorldState). IsLayout (base_of n) (network_layout n) f (states_among runs.items)) (sym tables) (subst (λ (f : ℕ → PartState). IsLayout (base_of n) (network_layout n) (tables_among n.runs.items) f) (sym states) divided.laid);
      empty = subst (λ (f : ℕ → WorldState). AreEmptied (base_of n) (network_layout n) f (states_among runs.items)) (sym tables) (subst (λ (f : ℕ → PartState). AreEmptied (base_of n) (network_layout n) (tables_among n.runs.items) f) (sym states) divided.empty);
      crossings = divided.crossings;
      joined = λ i d inside.
          let joined : IsJoined n.runs.items (get_or n.crossings.items i d) = divided.joined i d inside in
          let from = run_there runs.items (get_or n.crossings.items i d).from (subst (λ (k : ℕ). (get_or n.crossings.items i d).from < k) (sym same.count) (slice_get_within n.runs.items (get_or n.crossings.items i d).from joined.from joined.from_there)) in
          let to = run_there runs.items (get_or n.crossings.items i d).to (subst (λ (k : ℕ). (get_or n.crossings.items i d).to < k) (sym same.count) (slice_get_within n.runs.items (get_or n.crossings.items i d).to joined.to joined.to_there)) in
          let one = same.each (get_or n.crossings.items i d).from joined.from from.0 joined.from_there from.1 in
          let two = same.each (get_or n.crossings.items i d).to joined.to to.0 joined.to_there to.1 in
          record {
            from = from.0;
            to = to.0;
            from_there = from.1;
            to_there = to.1;
            there = joined_same joined.from.part joined.to.part from.0.part to.0.part (get_or n.crossings.items i d).from_port (get_or n.crossings.items i d).to_port joined.there one two;
            back = joined_same joined.to.part joined.from.part to.0.part from.0.part (get_or n.crossings.items i d).to_port (get_or n.crossings.items i d).from_port joined.back two one;
          };
      ported = λ i b there port below.
          let a = run_there n.runs.items i (subst (λ (k : ℕ). i < k) same.count (slice_get_within runs.items i b there)) in
          let is : IsRecommanded a.0.part b.part = same.each i a.0 b a.1 there in
          divided.ported i a.0 a.1 port (subst (λ (v : Vec Port Global). port < length v.items) is.ports below);
      clocks = divided.clocks;
      idle = λ i b there.
          let a = run_there n.runs.items i (subst (λ (k : ℕ). i < k) same.count (slice_get_within runs.items i b there)) in
          let idle : IsIdle (turn_budget (length n.runs.items)) a.0 = divided.idle i a.0 a.1 in
          let is : IsRecommanded a.0.part b.part = same.each i a.0 b a.1 there in
          record {
            away = subst (λ (w : WorldState). LeadAway (record { boxes = []; channels = w.channels; lanes = [] }) (length w.boxes) (sides b.part.ports.items)) (sym is.engine)
                (subst (λ (v : Vec Port Global). LeadAway (tables_of a.0.part) (length a.0.part.engine.boxes) (sides v.items)) (sym is.ports) idle.away);
            within = fit.within i b there;
            log = ap (λ (q : Queue Made). q.items) is.log ∙ idle.log;
            stamp = is.stamp ∙ idle.stamp;
            heard = is.heard ∙ idle.heard;
            room = subst (λ (w : WorldState). SLOT_LIMIT * length w.boxes ≤ turn_budget (length runs.items)) (sym is.engine) (subst (λ (k : ℕ). SLOT_LIMIT * length a.0.part.engine.boxes ≤ turn_budget k) (sym same.count) idle.room);
            known = fit.known i b there;
            allowed = fit.allowed i b there;
          };
      calm = fit.calm_is;
      free = λ on. ap has_ring (world_same n runs calm same) ∙ divided.free on;
      sound = subst (λ (f : ℕ → PartState). IsSound (stands_for (base_of n) (network_layout n) f)) (sym states) divided.sound;
    }
