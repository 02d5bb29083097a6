-- The logs that the boxes keep are those that were claimed.
use Rattle.std.proofs.Common.{◌≡◌, ℕ, zero, suc, List, [], ◌∷◌, map, get_or, refl, ap, sym, ◌∙◌}
use Rattle.mc_box.specs.BoxEvents.{turn_of}
use Rattle.mc_box.specs.declared.event.Event.{Event}
use Rattle.mc_box.specs.declared.event.Turn.{Turn}
use Rattle.mc_port.specs.Entries.{Claimed, Entry, entries_of, no_entry, stamps_of}
use Rattle.mc_merge.proofs.Claims.{logs_at}
use Rattle.mc_merge.specs.LaneLogs.{claimed_of, logs_of}
use Rattle.mc_merge.specs.Merging.{merged, turn_at}
use Rattle.mc_order.specs.declared.Key.{Key}
use Rattle.mc_team.specs.Logs.{log_stamps, logged_turn, no_logged}
use Rattle.mc_worker.specs.Account.{logged}
use Rattle.mc_worker.specs.declared.logged.Logged.{Logged}

-- logs as they are written down
abbrev pub written : List (List Claimed) → List (List Logged)
written logs = map (λ (log : List Claimed). map logged log) logs

-- ---- stamps

logged_stamps : (log : List Claimed) → log_stamps (map logged log) ≡ stamps_of (entries_of log)
logged_stamps [] = refl
logged_stamps (claimed ∷ log) = ap (λ (l : List ℕ). claimed.entry.stamp ∷ l) (logged_stamps log)

-- what was logged has the stamps that were claimed
pub written_stamps : (logs : List (List Claimed)) → map log_stamps (written logs) ≡ map stamps_of (logs_of logs)
written_stamps [] = refl
written_stamps (log ∷ logs) = ap (λ (l : List ℕ). l ∷ map log_stamps (written logs)) (logged_stamps log) ∙ ap (λ (l : List (List ℕ)). stamps_of (entries_of log) ∷ l) (written_stamps logs)

-- ---- turns

-- and the events
logged_event : (log : List Claimed) (i : ℕ) → (get_or (map logged log) i no_logged).event ≡ (get_or (entries_of log) i no_entry).event
logged_event [] i = refl
logged_event (claimed ∷ log) zero = refl
logged_event (claimed ∷ log) (suc i) = logged_event log i

written_at : (logs : List (List Claimed)) (who : ℕ) → get_or (written logs) who [] ≡ map logged (claimed_of logs who)
written_at [] who = refl
written_at (log ∷ logs) zero = refl
written_at (log ∷ logs) (suc who) = written_at logs who

written_turn : (logs : List (List Claimed)) (key : Key) → logged_turn (written logs) key ≡ turn_at (logs_of logs) key
written_turn logs key =
    ap (λ (l : List Logged). turn_of key.who (get_or l key.index no_logged).event) (written_at logs key.who)
    ∙ (ap (λ (e : Event). turn_of key.who e) (logged_event (claimed_of logs key.who) key.index)
    ∙ ap (λ (l : List Entry). turn_of key.who (get_or l key.index no_entry).event) (sym (logs_at logs key.who)))

-- so each key names the same turn
pub written_turns : (logs : List (List Claimed)) (keys : List Key) → map (logged_turn (written logs)) keys ≡ merged (logs_of logs) keys
written_turns logs [] = refl
written_turns logs (key ∷ keys) = ap (λ (t : Turn). t ∷ map (logged_turn (written logs)) keys) (written_turn logs key) ∙ ap (λ (l : List Turn). turn_at (logs_of logs) key ∷ l) (written_turns logs keys)
