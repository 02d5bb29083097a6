-- Each signal under way stays one for some slot, whatever box makes an event.
use Rattle.std.proofs.Common.{◌≡◌, ◌<◌, zero, suc, ℕ, Option, Some, None, List, [], ◌∷◌, ◌++◌, drop, length, position, get_or, refl, sym, subst}
use Rattle.std.proofs.Math.ListN.{set}
use Rattle.std.specs.Option.{option_map, unwrap_or}
use Rattle.mc_signal.specs.declared.Signal.{Signal}
use Rattle.mc_signal.specs.declared.Tagged.{Tagged}
use Rattle.mc_model.specs.Worlds.{far, is_place}
use Rattle.mc_world.specs.Fronts.{NextServed}
use Rattle.mc_world.specs.Lanes.{IsLaid, all_sent, lane_by, one_sent, tunnel_by, with_sending, without_front}
use Rattle.mc_world.specs.Running.{AllServedBy, AreServed}
use Rattle.mc_world.specs.Waiting.{FirstServed, IsForBy}
use Rattle.mc_world.specs.declared.topology.Topology.{Topology}
use Rattle.mc_laws.proofs.Numbers.{far_in, found_at}

-- what holds of each element holds where one is replaced
pub each_set : {A : Type 0} (items : List A) (k : ℕ) (new d : A) (P : ℕ → A → Type 0) → ((i : ℕ) → P i (get_or items i d)) → P k new → (i : ℕ) → P i (get_or (set items k new) i d)
each_set [] k new d P each here i = each i
each_set (first ∷ items) zero new d P each here zero = here
each_set (first ∷ items) zero new d P each here (suc i) = each (suc i)
each_set (first ∷ items) (suc k) new d P each here zero = each zero
each_set {A = A} (first ∷ items) (suc k) new d P each here (suc i) = each_set items k new d (λ (n : ℕ) (a : A). P (suc n) a) (λ n. each (suc n)) here i

-- ---- one lane

served_left : (topology : Topology) (lane : ℕ) (signals : List Tagged) → AllServedBy topology lane signals → AllServedBy topology lane (drop 1 signals)
served_left topology lane [] served = tt
served_left topology lane (first ∷ rest) served = served.1

served_more : (topology : Topology) (lane : ℕ) (signals : List Tagged) (tagged : Tagged) (s : ℕ) → AllServedBy topology lane signals → IsForBy topology lane tagged s → AllServedBy topology lane (signals ++ tagged ∷ [])
served_more topology lane [] tagged s served for = ((s, for), tt)
served_more topology lane (first ∷ rest) tagged s served for = (served.0, served_more topology lane rest tagged s served.1 for)

first_served : (topology : Topology) (lane : ℕ) (signals : List Tagged) → AllServedBy topology lane signals → FirstServed topology lane signals
first_served topology lane [] served = tt
first_served topology lane (first ∷ rest) served = served.0

-- the next in a lane is for some slot
pub next_served : (topology : Topology) (lanes : List (List Tagged)) (s : ℕ) → AreServed topology lanes → NextServed topology lanes s
next_served topology lanes s served =
    first_served topology (lane_by topology s) (drop 1 (get_or lanes (lane_by topology s) [])) (served_left topology (lane_by topology s) (get_or lanes (lane_by topology s) []) (served (lane_by topology s)))

-- ---- all lanes

pub front_left : (topology : Topology) (lanes : List (List Tagged)) (lane : ℕ) → AreServed topology lanes → AreServed topology (without_front lanes lane)
front_left topology lanes lane served =
    each_set lanes lane (drop 1 (get_or lanes lane [])) [] (λ (n : ℕ) (signals : List Tagged). AllServedBy topology n signals) served (served_left topology lane (get_or lanes lane []) (served lane))

pub sending_served : (topology : Topology) (lanes : List (List Tagged)) (signal : Signal) (s : ℕ) → s < length topology.places.items → AreServed topology lanes → AreServed topology (with_sending topology lanes signal s)
sending_served topology lanes signal s here served =
    each_set lanes (lane_by topology s) (get_or lanes (lane_by topology s) [] ++ record { tunnel = tunnel_by topology s; signal = signal } ∷ []) []
    (λ (n : ℕ) (signals : List Tagged). AllServedBy topology n signals) served
    (served_more topology (lane_by topology s) (get_or lanes (lane_by topology s) []) (record { tunnel = tunnel_by topology s; signal = signal }) s (served (lane_by topology s)) (record { inside = here; leads = refl; within = refl }))

sent_served : (topology : Topology) (lanes : List (List Tagged)) (signal : Signal) (found : Option ℕ) → ((s : ℕ) → found ≡ Some s → far s < length topology.places.items) → AreServed topology lanes
    → AreServed topology (unwrap_or (option_map (λ s. with_sending topology lanes signal (far s)) found) lanes)
sent_served topology lanes signal None there served = served
sent_served topology lanes signal (Some s) there served = sending_served topology lanes signal (far s) (there s refl) served

one_served : (topology : Topology) (count who : ℕ) (lanes : List (List Tagged)) (sending : ℕ × Signal) → IsLaid topology count → AreServed topology lanes → AreServed topology (one_sent topology who lanes sending)
one_served topology count who lanes sending laid served =
    sent_served topology lanes sending.1 (position (is_place (who, sending.0)) topology.places.items)
    (λ s is.
    let own : s < length topology.places.items = (found_at topology.places.items who sending.0 s is).0 in
    subst (λ (n : ℕ). far s < n) (sym laid.slots) (far_in s (length topology.tunnels.items) (subst (λ (n : ℕ). s < n) laid.slots own))) served

pub all_served : (topology : Topology) (count who : ℕ) (sent : List (ℕ × Signal)) (lanes : List (List Tagged)) → IsLaid topology count → AreServed topology lanes → AreServed topology (all_sent topology who lanes sent)
all_served topology count who [] lanes laid served = served
all_served topology count who (sending ∷ sent) lanes laid served = all_served topology count who sent (one_sent topology who lanes sending) laid (one_served topology count who lanes sending laid served)
