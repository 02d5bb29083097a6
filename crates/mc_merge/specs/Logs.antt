-- The log of a part: the entries of all its boxes, in the order in which they were made.
use Rattle.std.specs.Prelude.{◌==◌, ℕ, ◌<◌, ◌≤◌, if◌then◌else◌, List, [], ◌∷◌, ◌++◌}
use Rattle.mc_port.specs.Entries.{Entry}
use Rattle.mc_port.specs.Tunnels.{log_sends}
use Rattle.mc_merge.specs.LaneLogs.{takings}
use Rattle.mc_merge.specs.Lanes.{into_box, leads_from, leads_to, out_of_box}
use Rattle.mc_model.specs.Worlds.{WorldState}
use Rattle.mc_port.specs.declared.stamped.Stamped.{Stamped}

-- an entry, and which of the part's boxes made it
pub record Own : Type 0 where
  pub who : ℕ
  pub entry : Entry

-- the entries of one box
abbrev pub own_log : ℕ → List Own → List Entry
own_log who [] = []
own_log who (own ∷ log) = (if own.who == who then own.entry ∷ [] else []) ++ own_log who log

-- each stamp is above the one before it, and the last is within a number
abbrev pub AreRising : ℕ → List Own → ℕ → Type 0
AreRising low [] last = low ≤ last
AreRising low (own ∷ log) last = (low < own.entry.stamp) × AreRising own.entry.stamp log last

-- what the boxes of a part take from a lane of it, and send into it, by its tables
abbrev pub taken_by : WorldState → List Own → ℕ → List Stamped
taken_by tables log lane = takings (into_box tables (leads_to tables lane) lane) (own_log (leads_to tables lane) log)

abbrev pub sent_by : WorldState → List Own → ℕ → List Stamped
sent_by tables log lane = log_sends (out_of_box tables (leads_from tables lane) lane)
    (own_log (leads_from tables lane) log)
