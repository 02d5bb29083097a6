-- What the boxes at a lane's ends take from it and send into it, by their logs.
use Rattle.std.specs.Prelude.{ℕ, List, [], flat_map, map, slice_index_or}
use Rattle.mc_signal.specs.declared.Tagged.{Tagged}
use Rattle.mc_port.specs.Entries.{Claimed, Entry, entries_of}
use Rattle.mc_port.specs.Tunnels.{Tunnels, event_takes, log_sends, log_takes}
use Rattle.mc_merge.specs.Lanes.{into_box, leads_from, leads_to, out_of_box}
use Rattle.mc_model.specs.Worlds.{WorldState}
use Rattle.mc_port.specs.Ends.{with_stamp, without_stamp}
use Rattle.mc_port.specs.declared.stamped.Stamped.{Stamped}

-- what goes through a lane, without its stamps
abbrev pub without_stamps : List Stamped → List Tagged
without_stamps items = map without_stamp items

-- what these entries take at an end, each with the stamp of the entry that takes it
abbrev pub takings : Tunnels → List Entry → List Stamped
takings tunnels entries =
    flat_map (λ entry. map (with_stamp entry.stamp) (event_takes tunnels entry.event entry.taken)) entries

-- ---- logs by the numbers of their boxes

abbrev pub log_of : List (List Entry) → ℕ → List Entry
log_of logs who = slice_index_or logs who []

-- all that is taken from a lane, with the stamps of the takings
abbrev pub taken_from : WorldState → List (List Entry) → ℕ → List Stamped
taken_from world logs lane = takings (into_box world (leads_to world lane) lane) (log_of logs (leads_to world lane))

-- all that is sent into it
abbrev pub sent_to : WorldState → List (List Entry) → ℕ → List Stamped
sent_to world logs lane =
    log_sends (out_of_box world (leads_from world lane) lane) (log_of logs (leads_from world lane))

-- ---- with claims

abbrev pub claimed_of : List (List Claimed) → ℕ → List Claimed
claimed_of logs who = slice_index_or logs who []

-- their entries alone
abbrev pub logs_of : List (List Claimed) → List (List Entry)
logs_of logs = map entries_of logs

-- all that is taken from a lane, with the stamps that the takings claim
abbrev pub claims_from : WorldState → List (List Claimed) → ℕ → List Stamped
claims_from world logs lane =
    log_takes (into_box world (leads_to world lane) lane) (claimed_of logs (leads_to world lane))
