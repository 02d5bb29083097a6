-- The logs of a round, and the turns in them.
use Rattle.std.specs.Prelude.{◌≡◌, ◌^◌, ◌<◌, ℕ, List, [], length, map, slice_index_or}
use Rattle.std.specs.declared.alloc.Global.{Global}
use Rattle.std.specs.declared.vec.Vec.{Vec}
use Rattle.mc_box.specs.BoxEvents.{turn_of}
use Rattle.mc_box.specs.declared.event.Event.TheVariants.{Shift}
use Rattle.mc_box.specs.declared.event.Turn.{Turn}
use Rattle.mc_order.specs.Keys.{IsOrdered}
use Rattle.mc_order.specs.declared.Key.{Key}
use Rattle.mc_team.specs.declared.round.RoundLog.{RoundLog}
use Rattle.mc_worker.specs.declared.logged.Logged.{Logged}

-- what stands in each log
abbrev pub log_lists : List (Vec Logged Global) → List (List Logged)
log_lists logs = map (λ (log : Vec Logged Global). log.items) logs

abbrev pub log_stamps : List Logged → List ℕ
log_stamps log = map (λ (logged : Logged). logged.stamp) log

-- so short that each entry's number fits
abbrev pub AreShort : List (List Logged) → Type 0
AreShort logs = (who : ℕ) → length (slice_index_or logs who []) < 2 ^ 32

-- ---- entries

-- what stands where no entry is
abbrev pub no_logged : Logged
no_logged = record { stamp = 0; event = Shift }

-- the key is that of an entry
pub record IsEntryOf (logs : List (List Logged)) (key : Key) : Type 0 where
  pub there : key.who < length logs
  pub entry : key.index < length (slice_index_or logs key.who [])

-- the turn of an entry of these logs
abbrev pub logged_turn : List (List Logged) → Key → Turn
logged_turn logs key = turn_of key.who (slice_index_or (slice_index_or logs key.who []) key.index no_logged).event

-- ---- the turns

-- these turns are the entries of the logs, each once, in the order of their stamps, and of the boxes where stamps are
-- the same
pub record AreTurnsOf (logs : List (List Logged)) (turns : List Turn) : Type 0 where
  -- the entries in that order
  pub keys : List Key
  pub ordered : IsOrdered (map log_stamps logs) keys
  -- each turn is that of its entry
  pub are : turns ≡ map (logged_turn logs) keys

-- the turns of a round are those of its logs
abbrev pub AreLogged : RoundLog → Type 0
AreLogged log = AreTurnsOf (log_lists log.logs.items) log.turns.items
