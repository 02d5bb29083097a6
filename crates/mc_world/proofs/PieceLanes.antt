-- An engine that was made of channels, and lanes that change between its turns.
use Rattle.std.proofs.Common.{◌≡◌, ◌<◌, ℕ, List, [], Result, Ok, Err, length, get_or, refl, ap, sym, ◌∙◌, subst}
use Rattle.std.specs.Prelude.{OnErr, OnOk}
use Rattle.std.specs.Vec.{with_items}
use Rattle.std.specs.declared.alloc.AllocError.{AllocError}
use Rattle.std.proofs.Math.ListN.{replicate}
use Rattle.std.proofs.lemmas.List.{set-get_or}
use Rattle.mc_box.specs.Boxes.{no_box}
use Rattle.mc_signal.specs.declared.Signal.{Signal}
use Rattle.mc_signal.specs.declared.Tagged.{Tagged}
use Rattle.mc_world.specs.Lanes.{signals_of, with_sending}
use Rattle.mc_world.specs.Running.{AllServedBy, AreServed, IsRunning}
use Rattle.mc_world.specs.Waiting.{IsWaiting}
use Rattle.mc_world.specs.declared.network.engine.Engine.TheInside.{Inside}
use Rattle.mc_world.specs.declared.topology.Topology.{Topology}
use Rattle.mc_world.specs.declared.waiting.Waiting.{Waiting}
use Rattle.mc_world.proofs.LaneChanges.{Lane, refilled}
use Rattle.mc_world.proofs.Running.{runs_on}
use Rattle.mc_world.proofs.Serving.{sending_served}
use Rattle.mc_world.proofs.Waits.{no_lane}

-- with nothing under way each signal is for some slot
pub none_served : (topology : Topology) (lanes : List (List Tagged)) (n : ℕ) → lanes ≡ replicate n [] → AreServed topology lanes
none_served topology lanes n none lane = subst (λ (l : List Tagged). AllServedBy topology lane l) (sym (ap (λ (l : List (List Tagged)). get_or l lane []) none ∙ no_lane n lane)) tt

-- ---- a signal that is put in

put_served : (topology : Topology) (old new : List (List Tagged)) (signal : Signal) (s : ℕ) (result : Result (Unit {0}) AllocError) → OnOk result (new ≡ with_sending topology old signal s) → OnErr result (new ≡ old)
    → s < length topology.places.items → AreServed topology old → AreServed topology new
put_served topology old new signal s (Ok done) sent same here served = subst (λ (l : List (List Tagged)). AreServed topology l) (sym sent) (sending_served topology old signal s here served)
put_served topology old new signal s (Err fault) sent same here served = subst (λ (l : List (List Tagged)). AreServed topology l) (sym same) served

pub put_runs : (inside : Inside) (first made : List Lane) (waiting : Waiting) (signal : Signal) (s : ℕ) (result : Result (Unit {0}) AllocError) → IsRunning inside → first ≡ inside.lanes.items → length made ≡ length first
    → OnOk result (signals_of made ≡ with_sending inside.topology (signals_of first) signal s) → OnErr result (signals_of made ≡ signals_of first) → IsWaiting inside.topology (signals_of made) waiting → s < length inside.topology.places.items
    → IsRunning (record inside { lanes = with_items inside.lanes made; waiting = waiting })
put_runs inside first made waiting signal s result runs read long sent same waits here =
    let many : length made ≡ length inside.lanes.items = long ∙ ap (λ (l : List Lane). length l) read in
    let new : (with_items inside.lanes made).items ≡ made = refilled inside.lanes made many in
    let served : AreServed inside.topology (signals_of made) =
    put_served inside.topology (signals_of first) (signals_of made) signal s result sent same here (subst (λ (l : List Lane). AreServed inside.topology (signals_of l)) (sym read) runs.served) in
    runs_on inside inside.boxes (with_items inside.lanes made) waiting inside.scratch 0 (get_or inside.boxes.items 0 no_box) runs (sym (set-get_or inside.boxes.items 0 no_box)) refl
    (ap (λ (l : List Lane). length l) new ∙ many)
    (subst (λ (l : List Lane). AreServed inside.topology (signals_of l)) (sym new) served)
    (subst (λ (l : List Lane). IsWaiting inside.topology (signals_of l) waiting) (sym new) waits) runs.scratch
