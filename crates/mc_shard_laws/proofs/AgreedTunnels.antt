-- Where two tables have the same tunnel for each slot of a box, its log takes and sends the same by both.
use Rattle.std.proofs.Common.{◌≡◌, ℕ, List, [], ◌∷◌, ◌++◌, map, Option, Some, None, refl, ap, ◌∙◌}
use Rattle.mc_signal.specs.declared.Signal.{Signal}
use Rattle.mc_signal.specs.declared.Tagged.{Tagged}
use Rattle.mc_box.specs.declared.event.Event.{Event}
use Rattle.mc_box.specs.declared.event.Event.TheVariants.{Take, Set, Media, Tell, Retry, Shift}
use Rattle.mc_merge.specs.LaneLogs.{takings}
use Rattle.mc_port.specs.Ends.{with_stamp}
use Rattle.mc_port.specs.Entries.{Entry}
use Rattle.mc_port.specs.Tunnels.{Tunnels, event_sends, event_takes, log_sends, sent_if, taken_if}
use Rattle.mc_port.specs.declared.stamped.Stamped.{Stamped}

event_same : (event : Event) (taken : Option Tagged) (tunnels other : Tunnels) → ((local : ℕ) → tunnels local ≡ other local) → event_takes tunnels event taken ≡ event_takes other event taken
event_same event None tunnels other same = refl
event_same (Take local) (Some tagged) tunnels other same = ap (λ (o : Option ℕ). taken_if o tagged) (same local)
event_same (Set change) (Some tagged) tunnels other same = refl
event_same (Media change) (Some tagged) tunnels other same = refl
event_same (Tell word) (Some tagged) tunnels other same = refl
event_same (Retry local) (Some tagged) tunnels other same = refl
event_same Shift (Some tagged) tunnels other same = refl

pub takings_same : (entries : List Entry) (tunnels other : Tunnels) → ((local : ℕ) → tunnels local ≡ other local) → takings tunnels entries ≡ takings other entries
takings_same [] tunnels other same = refl
takings_same (entry ∷ entries) tunnels other same =
    ap (λ (l : List Tagged). map (with_stamp entry.stamp) l ++ takings tunnels entries) (event_same entry.event entry.taken tunnels other same)
    ∙ ap (λ (l : List Stamped). map (with_stamp entry.stamp) (event_takes other entry.event entry.taken) ++ l) (takings_same entries tunnels other same)

one_same : (sent : List (ℕ × Signal)) (tunnels other : Tunnels) (stamp : ℕ) → ((local : ℕ) → tunnels local ≡ other local) → event_sends tunnels stamp sent ≡ event_sends other stamp sent
one_same [] tunnels other stamp same = refl
one_same (sending ∷ sent) tunnels other stamp same =
    ap (λ (o : Option ℕ). sent_if o stamp sending.1 ++ event_sends tunnels stamp sent) (same sending.0)
    ∙ ap (λ (l : List Stamped). sent_if (other sending.0) stamp sending.1 ++ l) (one_same sent tunnels other stamp same)

pub sends_same : (entries : List Entry) (tunnels other : Tunnels) → ((local : ℕ) → tunnels local ≡ other local) → log_sends tunnels entries ≡ log_sends other entries
sends_same [] tunnels other same = refl
sends_same (entry ∷ entries) tunnels other same =
    ap (λ (l : List Stamped). l ++ log_sends tunnels entries) (one_same entry.sent tunnels other entry.stamp same)
    ∙ ap (λ (l : List Stamped). event_sends other entry.stamp entry.sent ++ l) (sends_same entries tunnels other same)
