-- Flags and counts, where code takes a signal from a lane or puts one there.
use Rattle.std.proofs.Common.{◌≡◌, ◌≢◌, ◌<◌, ◌+◌, ◌-◌, ◌*◌, ◌==◌, ℕ, true, false, List, [], ◌∷◌, ◌++◌, length, drop, get_or, Option, Some, None, refl, ap, sym, ◌∙◌, subst, arith}
use Rattle.std.specs.List.{slice_get}
use Rattle.std.proofs.Math.ListN.{set}
use Rattle.std.proofs.lemmas.Grind.{common_steps}
use Rattle.std.proofs.lemmas.List.{length-map}
use Rattle.mc_signal.specs.declared.Signal.{Signal}
use Rattle.mc_signal.specs.declared.Tagged.{Tagged}
use Rattle.mc_world.specs.Lanes.{IsLaid, lane_by, signals_of, tunnel_by, with_sending, without_front}
use Rattle.mc_world.specs.Waiting.{AreFlagsCounted, AreFlagged, FirstServed, IsForBy, IsWaiting, waits_by}
use Rattle.mc_world.specs.declared.topology.Topology.{Topology}
use Rattle.mc_world.specs.declared.waiting.Waiting.{Waiting}
use Rattle.mc_world.proofs.FlagCounts.{counted_passed}
use Rattle.mc_world.proofs.Flags.{IsNext, flags_begun, flags_last, flags_next, flags_stay, next_is, none_next}
use Rattle.mc_world.proofs.LaneChanges.{Lane, signals_added, signals_at, signals_popped}
use Rattle.mc_world.proofs.TopologyLanes.{lane_there}

-- ---- a front that goes

-- slot s takes the front of its lane k, and the lane is new then
pub record TakesFront (topology : Topology) (lanes : List Lane) (waiting : Waiting) (s k : ℕ) (d new : Lane) : Type 0 where
  pub laid : IsLaid topology (length lanes)
  pub table : IsWaiting topology (signals_of lanes) waiting
  pub here : s < length topology.places.items
  pub some : waits_by topology (signals_of lanes) s ≡ true
  pub lane : k ≡ lane_by topology s
  pub left : new.items ≡ drop 1 (get_or lanes k d).items

pub taken_signals : (topology : Topology) (lanes : List Lane) (waiting : Waiting) (s k : ℕ) (d new : Lane) → TakesFront topology lanes waiting s k d new
    → signals_of (set lanes k new) ≡ without_front (signals_of lanes) (lane_by topology s)
taken_signals topology lanes waiting s k d new takes =
    signals_popped lanes k d new (subst (λ (j : ℕ). j < length lanes) (sym takes.lane) (lane_there topology (length lanes) s takes.laid takes.here)) takes.left
    ∙ ap (without_front (signals_of lanes)) takes.lane

-- what is left in the lane
left_is : (topology : Topology) (lanes : List Lane) (waiting : Waiting) (s k : ℕ) (d new : Lane) → TakesFront topology lanes waiting s k d new → new.items ≡ drop 1 (get_or (signals_of lanes) (lane_by topology s) [])
left_is topology lanes waiting s k d new takes =
    takes.left
    ∙ (ap (λ (l : List Tagged). drop 1 l) (sym (signals_at lanes k d (subst (λ (j : ℕ). j < length lanes) (sym takes.lane) (lane_there topology (length lanes) s takes.laid takes.here))))
    ∙ ap (λ (j : ℕ). drop 1 (get_or (signals_of lanes) j [])) takes.lane)

signals_lane : (topology : Topology) (lanes : List Lane) (s : ℕ) → IsLaid topology (length lanes) → s < length topology.places.items → lane_by topology s < length (signals_of lanes)
signals_lane topology lanes s laid here = rw (length-map lanes (λ (lane : Lane). lane.items)) (lane_there topology (length lanes) s laid here)

none_left : (lane : List Tagged) (front : Option Tagged) → front ≡ slice_get lane 0 → front ≡ None → lane ≡ []
none_left [] front is none = refl
none_left (tagged ∷ rest) front is none = absurd (cc)

-- nothing is after it
pub taken_last : (topology : Topology) (lanes : List Lane) (waiting after : Waiting) (s k : ℕ) (d new : Lane) (front : Option Tagged) → TakesFront topology lanes waiting s k d new
    → front ≡ slice_get new.items 0 → front ≡ None → after.flags.items ≡ set waiting.flags.items s false → AreFlagsCounted topology after → IsWaiting topology (signals_of (set lanes k new)) after
taken_last topology lanes waiting after s k d new front takes front_is none flags counted = record {
  counted = counted;
  flagged = subst (λ (l : List (List Tagged)). AreFlagged topology l after.flags.items) (sym (taken_signals topology lanes waiting s k d new takes))
      (flags_last topology (signals_of lanes) waiting.flags.items after.flags.items (length lanes) s (drop 1 (get_or (signals_of lanes) (lane_by topology s) [])) takes.laid takes.table.flagged takes.here
      (omega (arith, takes.here, takes.table.counted.flags)) (signals_lane topology lanes s takes.laid takes.here) takes.some flags
      (sym (left_is topology lanes waiting s k d new takes) ∙ none_left new.items front front_is none));
}

first_left : (topology : Topology) (lanes : List Lane) (waiting : Waiting) (s k : ℕ) (d new : Lane) (front : Option Tagged) (tagged : Tagged) → TakesFront topology lanes waiting s k d new
    → front ≡ slice_get new.items 0 → front ≡ Some tagged → slice_get (drop 1 (get_or (signals_of lanes) (lane_by topology s) [])) 0 ≡ Some tagged
first_left topology lanes waiting s k d new front tagged takes front_is some =
    ap (λ (l : List Tagged). slice_get l 0) (sym (left_is topology lanes waiting s k d new takes)) ∙ (sym front_is ∙ some)

-- another signal is, for a slot that is there
pub next_left : (topology : Topology) (lanes : List Lane) (waiting : Waiting) (s k : ℕ) (d new : Lane) (front : Option Tagged) (tagged : Tagged) → TakesFront topology lanes waiting s k d new
    → FirstServed topology (lane_by topology s) (drop 1 (get_or (signals_of lanes) (lane_by topology s) [])) → front ≡ slice_get new.items 0 → front ≡ Some tagged → IsNext topology s tagged
next_left topology lanes waiting s k d new front tagged takes served front_is some =
    next_is topology (length lanes) s (drop 1 (get_or (signals_of lanes) (lane_by topology s) [])) tagged takes.laid takes.here (first_left topology lanes waiting s k d new front tagged takes front_is some) served

-- which gets the flag
pub taken_next : (topology : Topology) (lanes : List Lane) (waiting after : Waiting) (s k next : ℕ) (d new : Lane) (front : Option Tagged) (tagged : Tagged) → TakesFront topology lanes waiting s k d new
    → FirstServed topology (lane_by topology s) (drop 1 (get_or (signals_of lanes) (lane_by topology s) [])) → front ≡ slice_get new.items 0 → front ≡ Some tagged
    → next ≡ s + 2 * tagged.tunnel - 2 * tunnel_by topology s → after.flags.items ≡ set (set waiting.flags.items s false) next true → after.takes ≡ waiting.takes → IsWaiting topology (signals_of (set lanes k new)) after
taken_next topology lanes waiting after s k next d new front tagged takes served front_is some next_here flags same =
    let rest : List Tagged = drop 1 (get_or (signals_of lanes) (lane_by topology s) []) in
    let first = first_left topology lanes waiting s k d new front tagged takes front_is some in
    let for : IsForBy topology (lane_by topology s) tagged next =
    subst (λ (t : ℕ). IsForBy topology (lane_by topology s) tagged t) (sym next_here) (next_left topology lanes waiting s k d new front tagged takes served front_is some).for in
    record {
      counted = counted_passed topology waiting after s next takes.laid.numbers takes.table.counted takes.here for.inside (takes.laid.home s next takes.here for.inside (sym for.leads)) (takes.table.flagged s takes.here ∙ takes.some)
          (none_next topology (signals_of lanes) waiting.flags.items (length lanes) s next takes.laid takes.table.flagged takes.here takes.table.counted.flags (signals_lane topology lanes s takes.laid takes.here) takes.some for.inside for.leads)
          flags same;
      flagged = subst (λ (l : List (List Tagged)). AreFlagged topology l after.flags.items) (sym (taken_signals topology lanes waiting s k d new takes))
          (flags_next topology (signals_of lanes) waiting.flags.items (set waiting.flags.items s false) after.flags.items (length lanes) s next rest tagged takes.laid takes.table.flagged takes.here
          takes.table.counted.flags (signals_lane topology lanes s takes.laid takes.here) takes.some refl flags first served next_here);
    }

-- ---- a signal that comes

-- a signal goes to slot s by its lane k, and the lane is new then
pub record Comes (topology : Topology) (lanes : List Lane) (waiting : Waiting) (s k tunnel : ℕ) (signal : Signal) (d new : Lane) : Type 0 where
  pub laid : IsLaid topology (length lanes)
  pub table : IsWaiting topology (signals_of lanes) waiting
  pub here : s < length topology.places.items
  pub lane : k ≡ lane_by topology s
  pub tunnel_is : tunnel ≡ tunnel_by topology s
  pub added : new.items ≡ (get_or lanes k d).items ++ record { tunnel = tunnel; signal = signal } ∷ []

pub come_signals : (topology : Topology) (lanes : List Lane) (waiting : Waiting) (s k tunnel : ℕ) (signal : Signal) (d new : Lane) → Comes topology lanes waiting s k tunnel signal d new
    → signals_of (set lanes k new) ≡ with_sending topology (signals_of lanes) signal s
come_signals topology lanes waiting s k tunnel signal d new comes =
    signals_added lanes k d new (record { tunnel = tunnel; signal = signal } ∷ []) (subst (λ (j : ℕ). j < length lanes) (sym comes.lane) (lane_there topology (length lanes) s comes.laid comes.here)) comes.added
    ∙ rw (comes.lane, comes.tunnel_is) refl

-- what was in the lane
was_is : (topology : Topology) (lanes : List Lane) (waiting : Waiting) (s k tunnel : ℕ) (signal : Signal) (d new : Lane) → Comes topology lanes waiting s k tunnel signal d new
    → (get_or lanes k d).items ≡ get_or (signals_of lanes) (lane_by topology s) []
was_is topology lanes waiting s k tunnel signal d new comes =
    sym (signals_at lanes k d (subst (λ (j : ℕ). j < length lanes) (sym comes.lane) (lane_there topology (length lanes) s comes.laid comes.here)))
    ∙ ap (λ (j : ℕ). get_or (signals_of lanes) j []) comes.lane

none_was : (lane : List Tagged) → (length lane == 0) ≡ true → lane ≡ []
none_was [] none = refl
none_was (tagged ∷ rest) none = grind (arith, common_steps)

some_was : (lane : List Tagged) → (length lane == 0) ≡ false → lane ≢ []
some_was [] some none = absurd (grind (arith, common_steps))
some_was (tagged ∷ rest) some none = absurd (cc)

-- it is the first, and the slot gets its flag
pub come_first : (topology : Topology) (lanes : List Lane) (waiting after : Waiting) (s k tunnel : ℕ) (signal : Signal) (d new : Lane) → Comes topology lanes waiting s k tunnel signal d new
    → (length (get_or lanes k d).items == 0) ≡ true → after.flags.items ≡ set waiting.flags.items s true → AreFlagsCounted topology after → IsWaiting topology (signals_of (set lanes k new)) after
come_first topology lanes waiting after s k tunnel signal d new comes empty flags counted =
    let sent : Tagged = record { tunnel = tunnel_by topology s; signal = signal } in
    let none : get_or (signals_of lanes) (lane_by topology s) [] ≡ [] = sym (was_is topology lanes waiting s k tunnel signal d new comes) ∙ none_was (get_or lanes k d).items empty in
    let first : set (signals_of lanes) (lane_by topology s) (sent ∷ []) ≡ signals_of (set lanes k new) =
    ap (λ (l : List Tagged). set (signals_of lanes) (lane_by topology s) (l ++ sent ∷ [])) (sym none) ∙ sym (come_signals topology lanes waiting s k tunnel signal d new comes) in
    record {
      counted = counted;
      flagged = subst (λ (l : List (List Tagged)). AreFlagged topology l after.flags.items) first
          (rw flags (flags_begun topology (signals_of lanes) waiting.flags.items (length lanes) (lane_by topology s) s sent [] comes.laid comes.table.flagged (signals_lane topology lanes s comes.laid comes.here) none
          (omega (arith, comes.here, comes.table.counted.flags)) (record { inside = comes.here; leads = refl; within = refl })));
    }

-- or it is after others
pub come_behind : (topology : Topology) (lanes : List Lane) (waiting : Waiting) (s k tunnel : ℕ) (signal : Signal) (d new : Lane) → Comes topology lanes waiting s k tunnel signal d new
    → (length (get_or lanes k d).items == 0) ≡ false → IsWaiting topology (signals_of (set lanes k new)) waiting
come_behind topology lanes waiting s k tunnel signal d new comes some = record {
  counted = comes.table.counted;
  flagged = subst (λ (l : List (List Tagged)). AreFlagged topology l waiting.flags.items) (sym (come_signals topology lanes waiting s k tunnel signal d new comes))
      (flags_stay topology (signals_of lanes) waiting.flags.items (lane_by topology s) (record { tunnel = tunnel_by topology s; signal = signal } ∷ []) comes.table.flagged (signals_lane topology lanes s comes.laid comes.here)
      (subst (λ (l : List Tagged). l ≢ []) (was_is topology lanes waiting s k tunnel signal d new comes) (some_was (get_or lanes k d).items some)));
}
