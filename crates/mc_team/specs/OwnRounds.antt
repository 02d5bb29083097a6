-- What each box of a team did in a round: nothing, or one round of its own, with its log, its stop and the cause of
-- that.
use Rattle.std.specs.Prelude.{◌≡◌, ◌↔◌, ◌⊎◌, ◌+◌, ◌++◌, ◌<◌, ◌≤◌, ℕ, Bool, false, List, [], length, map, slice_get, slice_index_or, MatchOption, Option, None, Some}
use Rattle.mc_box.specs.BoxEvents.{is_command, is_enabled, is_retry, is_shift}
use Rattle.mc_box.specs.Boxes.{BoxState}
use Rattle.mc_box.specs.declared.event.Event.TheVariants.{Shift}
use Rattle.mc_box.specs.declared.limit.TheConstants.{SHIFT_LIMIT}
use Rattle.mc_team.specs.Teams.{HasTeamWork, TeamState, shifts_at, stimuli_at}
use Rattle.mc_port.specs.Entries.{AreMade, AreStamped, Claimed, entries_of, event_of, events_that, stamps_of}
use Rattle.mc_port.specs.Tunnels.{log_takes, tunnels_at}
use Rattle.mc_merge.specs.Claims.{IsClaimed}
use Rattle.mc_merge.specs.LaneLogs.{claimed_of, without_stamps}
use Rattle.mc_merge.specs.Lanes.{into_box, leads_to}
use Rattle.mc_model.specs.Worlds.{WorldState, box_at}
use Rattle.mc_order.specs.Keys.{Rise}
use Rattle.mc_port.specs.Ends.{with_stamp}
use Rattle.mc_port.specs.declared.stamped.Stamped.{Stamped}
use Rattle.mc_worker.specs.Account.{in_at, logged, retries_below}
use Rattle.mc_worker.specs.Rounds.{AllIdle, HasStopped, IsLastHear, IsRound}
use Rattle.mc_worker.specs.declared.limit.TheConstants.{TURN_LIMIT}
use Rattle.mc_worker.specs.declared.logged.Logged.{Logged}
use Rattle.mc_worker.specs.declared.stop.RoundEnd.{RoundEnd}
use Rattle.mc_worker.specs.declared.stop.Stop.{Stop}
use Rattle.mc_worker.specs.declared.stop.Stop.TheVariants.{Rested, Spent, NoMemory, VersionEnd, Strange}
use Rattle.mc_worker.specs.declared.worker.Worker.{Worker}

-- there is a log and a stop for each box, and for each box they say this; and together the logs are what the merge law
-- asks for, between the worlds before the round and after it
pub record AreLogsOf (Says : ℕ → List Claimed → Option Stop → Type 0) (old new : TeamState) (logs : List (List Logged))
    (stops : List (Option Stop)) : Type 0 where
  pub log_count : length logs ≡ length old.world.boxes
  pub stop_count : length stops ≡ length old.world.boxes
  -- each entry with what it took and sent, and with the stamp with which what it took was sent
  pub entries : List (List Claimed)
  pub logs_are : logs ≡ map (λ (log : List Claimed). map logged log) entries
  pub each : (who : ℕ) → who < length old.world.boxes
      → Says who (claimed_of entries who) (slice_index_or stops who None)
  -- what is under way after the round, with the stamps with which it was sent
  pub rests : List (List Stamped)
  pub rests_are : map without_stamps rests ≡ new.world.lanes
  pub claimed : IsClaimed old.world entries new.world.boxes rests

-- ---- by the workers that make the rounds

-- a worker has a box of a team, with the commands that are left to it and the Shifts that it has made
pub record HasBox (team : TeamState) (who : ℕ) (worker : Worker) : Type 0 where
  pub part : worker.part ≡ box_at team.world who
  pub stimuli : worker.stimuli.items ≡ stimuli_at team who
  pub shifts : worker.shifts ≡ shifts_at team who

-- a lane leads to a channel end of it: what is under way on the lane waits in the inbox there
pub record HasLaneEnd (world : WorldState) (lane : ℕ) (worker : Worker) : Type 0 where
  pub end : ℕ
  pub there : end < length worker.ins.items
  pub waits : (in_at worker end).inbox ≡ slice_index_or world.lanes lane []
  pub tunnels : (local : ℕ) → tunnels_at worker.place end local ≡ into_box world (leads_to world lane) lane local

-- a box that had work made one round: its worker, with no stamp yet, made at most as many turns as a round may have,
-- which are its log; and it stopped for the cause that the stop says
pub record IsOwnRound (retries : Bool) (old new : TeamState) (who : ℕ) (log : List Claimed) (stop : Stop) : Type 0 where
  pub works : HasTeamWork retries old who
  -- its worker before the round and after it
  pub before : Worker
  pub after : Worker
  pub has_before : HasBox old who before
  pub has_after : HasBox new who after
  pub no_stamp : before.stamp ≡ 0
  pub lanes : (lane : ℕ) → lane < length old.world.lanes → leads_to old.world lane ≡ who
      → HasLaneEnd old.world lane before
  -- the round
  pub end : RoundEnd
  pub round : IsRound retries before after end
  pub log_is : log ≡ round.log
  pub most : end.turns ≤ TURN_LIMIT
  -- and why it ended
  pub stop_is : stop ≡ end.stop
  pub spent : (end.stop ≡ Spent) ↔ (end.turns ≡ TURN_LIMIT)
  pub cause : end.turns < TURN_LIMIT → HasStopped (AllIdle before after) after end.stop

-- a box without work made no turn, and has no stop; each other made one round
abbrev pub DidBox : Bool → (old new : TeamState) → ℕ → List Claimed → Option Stop → Type 0
DidBox retries old new who log None = (HasTeamWork retries old who → ⊥) × (log ≡ [])
DidBox retries old new who log (Some stop) = IsOwnRound retries old new who log stop

abbrev pub AreOwnRounds : Bool → (old new : TeamState) → List (List Logged) → List (Option Stop) → Type 0
AreOwnRounds retries old new logs stops = AreLogsOf (DidBox retries old new) old new logs stops

-- ---- by what is seen from outside

-- no Shift is enabled, or as many were made as a box may make
abbrev pub MayNotShift : TeamState → ℕ → Type 0
MayNotShift team who = (is_enabled (box_at team.world who) Shift ≡ false) ⊎ (shifts_at team who ≡ SHIFT_LIMIT)

-- a log takes from a lane all that was under way on it, before anything that came since
pub record TakesAll (world : WorldState) (who lane : ℕ) (log : List Claimed) : Type 0 where
  pub later : List Stamped
  pub order : log_takes (into_box world who lane) log ≡ map (with_stamp 0) (slice_index_or world.lanes lane []) ++ later

-- a box rests after fewer turns than a round may have, with no command left, no Shift that it may make, and all taken
-- that was under way to it
pub record ShowsRest (old new : TeamState) (who : ℕ) (log : List Claimed) : Type 0 where
  pub few : length log < TURN_LIMIT
  pub no_command : stimuli_at new who ≡ []
  pub no_shift : MayNotShift new who
  pub taken : (lane : ℕ) → lane < length old.world.lanes → leads_to old.world lane ≡ who
      → TakesAll old.world who lane log

-- its next command is a Hear of a slot that is at its last version, after fewer turns than a round may have
pub record ShowsLastHear (new : TeamState) (who local : ℕ) (log : List Claimed) : Type 0 where
  pub few : length log < TURN_LIMIT
  pub next : MatchOption (slice_get (stimuli_at new who) 0) ⊥ (λ event. IsLastHear (box_at new.world who) local event)

-- why a round ended: at rest; spent, after as many turns as a round may have; or before such a Hear
abbrev pub ShowsEnd : (old new : TeamState) → ℕ → List Claimed → Stop → Type 0
ShowsEnd old new who log Rested = ShowsRest old new who log
ShowsEnd old new who log Spent = length log ≡ TURN_LIMIT
ShowsEnd old new who log (NoMemory e) = ⊥
ShowsEnd old new who log (VersionEnd local) = ShowsLastHear new who local log
ShowsEnd old new who log (Strange end tunnel) = ⊥

-- the retries that are asked for come first, one for each slot that owes one, in the order of the slots; no other retry
-- comes
pub record BeginsByRetries (retries : Bool) (box : BoxState) (log : List Claimed) : Type 0 where
  pub first : List Claimed
  pub rest : List Claimed
  pub parts : log ≡ first ++ rest
  pub retried : map event_of first ≡ retries_below retries box (length box.slots)
  pub no_other : events_that is_retry rest ≡ []

-- what the log and the stop of a box show of its round
pub record ShowsRound (retries : Bool) (old new : TeamState) (who : ℕ) (log : List Claimed) (stop : Stop) : Type 0 where
  pub works : HasTeamWork retries old who
  -- its turns, one after the other, made the box before the round into the box after it
  pub made : AreMade (box_at old.world who) (entries_of log) (box_at new.world who)
  -- from 0 on each stamp is one more than the greater of the one before it and that of the signal taken: so they rise
  pub stamps : AreStamped 0 log
  pub rise : Rise (stamps_of (entries_of log))
  pub retried : BeginsByRetries retries (box_at old.world who) log
  -- the first commands were used, in order, and Shifts were counted
  pub commands : events_that is_command log ++ stimuli_at new who ≡ stimuli_at old who
  pub shifts : shifts_at new who ≡ shifts_at old who + length (events_that is_shift log)
  pub most : length log ≤ TURN_LIMIT
  pub cause : ShowsEnd old new who log stop

-- a box without work has an empty log, and no stop
abbrev pub ShowsBox : Bool → (old new : TeamState) → ℕ → List Claimed → Option Stop → Type 0
ShowsBox retries old new who log None = (HasTeamWork retries old who → ⊥) × (log ≡ [])
ShowsBox retries old new who log (Some stop) = ShowsRound retries old new who log stop

abbrev pub AreShown : Bool → (old new : TeamState) → List (List Logged) → List (Option Stop) → Type 0
AreShown retries old new logs stops = AreLogsOf (ShowsBox retries old new) old new logs stops
