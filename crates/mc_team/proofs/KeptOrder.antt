-- What goes through the ends of two workers, as a lane.
use Rattle.std.proofs.Common.{◌≡◌, ℕ, Option, Some, None, List, [], ◌∷◌, ◌++◌, map, append_assoc, refl, ap, sym, ◌∙◌}
use Rattle.mc_signal.specs.declared.Signal.{Signal}
use Rattle.mc_signal.specs.declared.Tagged.{Tagged}
use Rattle.mc_box.specs.declared.event.Event.{Event}
use Rattle.mc_box.specs.declared.event.Event.TheVariants.{Take, Set, Media, Tell, Retry, Shift}
use Rattle.mc_team.specs.Carried.{EndsKeep, IsCarried}
use Rattle.mc_port.specs.Entries.{Claimed, Entry, entries_of}
use Rattle.mc_port.specs.Tunnels.{Tunnels, event_sends, event_takes, log_sends, log_takes, sent_if, taken_if, tunnels_at}
use Rattle.mc_merge.proofs.Claims.{ring_keeps}
use Rattle.mc_merge.specs.Lanes.{into_box, leads_from, leads_to, out_of_box}
use Rattle.mc_model.specs.Worlds.{WorldState}
use Rattle.mc_port.specs.Ends.{with_stamp}
use Rattle.mc_port.specs.declared.stamped.Stamped.{Stamped}
use Rattle.mc_worker.specs.Account.{IsWork, in_at, out_at}
use Rattle.mc_worker.specs.Ends.{unclaimed}
use Rattle.mc_worker.specs.declared.worker.Worker.{Worker}
use Rattle.std.proofs.Math.ListN.{get_or}

-- ---- tunnels that agree

takes_same : (event : Event) (taken : Option Tagged) (tunnels other : Tunnels) → ((local : ℕ) → tunnels local ≡ other local) → event_takes tunnels event taken ≡ event_takes other event taken
takes_same event None tunnels other same = refl
takes_same (Take local) (Some tagged) tunnels other same = ap (λ (o : Option ℕ). taken_if o tagged) (same local)
takes_same (Set change) (Some tagged) tunnels other same = refl
takes_same (Media change) (Some tagged) tunnels other same = refl
takes_same (Tell word) (Some tagged) tunnels other same = refl
takes_same (Retry local) (Some tagged) tunnels other same = refl
takes_same Shift (Some tagged) tunnels other same = refl

pub taken_same : (log : List Claimed) (tunnels other : Tunnels) → ((local : ℕ) → tunnels local ≡ other local) → log_takes tunnels log ≡ log_takes other log
taken_same [] tunnels other same = refl
taken_same (claimed ∷ log) tunnels other same =
    ap (λ (l : List Tagged). map (with_stamp claimed.claim) l ++ log_takes tunnels log) (takes_same claimed.entry.event claimed.entry.taken tunnels other same)
    ∙ ap (λ (l : List Stamped). map (with_stamp claimed.claim) (event_takes other claimed.entry.event claimed.entry.taken) ++ l) (taken_same log tunnels other same)

sends_same : (sent : List (ℕ × Signal)) (tunnels other : Tunnels) (stamp : ℕ) → ((local : ℕ) → tunnels local ≡ other local) → event_sends tunnels stamp sent ≡ event_sends other stamp sent
sends_same [] tunnels other stamp same = refl
sends_same (sending ∷ sent) tunnels other stamp same =
    ap (λ (o : Option ℕ). sent_if o stamp sending.1 ++ event_sends tunnels stamp sent) (same sending.0)
    ∙ ap (λ (l : List Stamped). sent_if (other sending.0) stamp sending.1 ++ l) (sends_same sent tunnels other stamp same)

pub sent_same : (entries : List Entry) (tunnels other : Tunnels) → ((local : ℕ) → tunnels local ≡ other local) → log_sends tunnels entries ≡ log_sends other entries
sent_same [] tunnels other same = refl
sent_same (entry ∷ entries) tunnels other same =
    ap (λ (l : List Stamped). l ++ log_sends tunnels entries) (sends_same entry.sent tunnels other entry.stamp same)
    ∙ ap (λ (l : List Stamped). event_sends other entry.stamp entry.sent ++ l) (sent_same entries tunnels other same)

-- ---- one lane

cut_front : (xs ys zs : List Stamped) → xs ++ ys ≡ xs ++ zs → ys ≡ zs
cut_front [] ys zs e = e
cut_front (x ∷ xs) ys zs e = cut_front xs ys zs (cc)

pub ends_keep : EndsKeep
ends_keep in_old in_new out_old out_new taken sent left takes gives ring empty rest =
    let given : takes.gave ++ left ≡ gives.put =
    cut_front out_old.given (takes.gave ++ left) gives.put
    (sym (append_assoc out_old.given takes.gave left) ∙ (ap (λ (l : List Stamped). (l ++ takes.gave) ++ left) (sym ring) ∙ (ap (λ (l : List Stamped). l ++ left) (sym takes.ring) ∙ (rest ∙ gives.ring)))) in
    let kept : out_new.outbox ≡ gives.kept = gives.outbox ∙ ap (λ (l : List Stamped). l ++ gives.kept) empty in
    ap (λ (l : List Stamped). taken ++ (map unclaimed in_new.inbox ++ (left ++ l))) kept
    ∙ (ring_keeps in_old.inbox in_new.inbox taken takes.gave left gives.put gives.kept takes.order takes.whole given
    ∙ ap (λ (l : List Stamped). map unclaimed in_old.inbox ++ l) (sym gives.order))

-- the account of each of the two workers, at a lane that they carry
pub carried : (world : WorldState) (lane : ℕ) (sender sender_after taker taker_after : Worker) (sender_log taker_log : List Claimed) (rest : List Stamped)
    → IsWork sender sender_after sender_log → IsWork taker taker_after taker_log → IsCarried world lane sender sender_after taker taker_after rest
    → log_takes (into_box world (leads_to world lane) lane) taker_log ++ rest ≡ map (with_stamp 0) (get_or world.lanes lane []) ++ log_sends (out_of_box world (leads_from world lane) lane) (entries_of sender_log)
carried world lane sender sender_after taker taker_after sender_log taker_log rest gives takes at =
    let taken : log_takes (into_box world (leads_to world lane) lane) taker_log ≡ log_takes (tunnels_at taker.place at.taking_end) taker_log =
    sym (taken_same taker_log (tunnels_at taker.place at.taking_end) (into_box world (leads_to world lane) lane) at.takes) in
    let sent : log_sends (out_of_box world (leads_from world lane) lane) (entries_of sender_log) ≡ log_sends (tunnels_at sender.place at.giving_end) (entries_of sender_log) =
    sym (sent_same (entries_of sender_log) (tunnels_at sender.place at.giving_end) (out_of_box world (leads_from world lane) lane) at.sends) in
    ap (λ (l : List Stamped). l ++ rest) taken
    ∙ (ap (λ (l : List Stamped). log_takes (tunnels_at taker.place at.taking_end) taker_log ++ l) at.rest_is
    ∙ (ends_keep (in_at taker at.taking_end) (in_at taker_after at.taking_end) (out_at sender at.giving_end) (out_at sender_after at.giving_end)
    (log_takes (tunnels_at taker.place at.taking_end) taker_log) (log_sends (tunnels_at sender.place at.giving_end) (entries_of sender_log)) at.left
    (takes.ins at.taking_end) (gives.outs at.giving_end) at.ring at.outbox at.left_is
    ∙ (ap (λ (l : List Tagged). map unclaimed l ++ log_sends (tunnels_at sender.place at.giving_end) (entries_of sender_log)) at.waiting
    ∙ ap (λ (l : List Stamped). map (with_stamp 0) (get_or world.lanes lane []) ++ l) (sym sent))))
