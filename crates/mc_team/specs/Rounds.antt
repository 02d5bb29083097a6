-- What a round of a team is.
use Rattle.std.specs.Prelude.{◌≡◌, ◌≢◌, ◌+◌, ◌<◌, ◌≤◌, ◌++◌, ◌&&◌, ◌==◌, ℕ, Bool, false, if◌then◌else◌, List, [], count_by, length, map, slice_get, slice_index_or, IsTrue, MatchOption, Option, None, Some}
use Rattle.std.specs.List.{list_any}
use Rattle.mc_box.specs.BoxEvents.{turn_of}
use Rattle.mc_box.specs.declared.event.Turn.{Turn}
use Rattle.mc_box.specs.declared.limit.TheConstants.{SHIFT_LIMIT}
use Rattle.mc_team.specs.Teams.{HasTeamWork, TeamState, shifts_at, stimuli_at}
use Rattle.mc_model.specs.Settles.{commands_of, is_retry_of, is_shift_of, world_owes}
use Rattle.mc_model.specs.Steps.{run}
use Rattle.mc_model.specs.Worlds.{box_at}
use Rattle.mc_team.specs.declared.member.Member.{Member}
use Rattle.mc_worker.specs.Rounds.{IsLastHear}
use Rattle.mc_worker.specs.declared.logged.Logged.{Logged}
use Rattle.mc_worker.specs.declared.stop.RoundEnd.{RoundEnd}
use Rattle.mc_worker.specs.declared.stop.Stop.{Stop}
use Rattle.mc_worker.specs.declared.stop.Stop.TheVariants.{Rested, Spent, NoMemory, VersionEnd, Strange}

-- a box that had work made a turn, and, where no retries were asked for and it had commands, used one up
pub record HasMoved (retries : Bool) (old new : TeamState) (turns : List Turn) (who : ℕ) : Type 0 where
  pub works : HasTeamWork retries old who
  pub made : IsTrue (list_any (λ turn. turn.who == who) turns)
  pub used : retries ≡ false → stimuli_at old who ≢ [] → length (stimuli_at new who) < length (stimuli_at old who)

-- how a round ended for a box: without a stop exactly where it had no work; never for want of memory, nor at a signal
-- that it can't take
abbrev pub EndsBox : Bool → (old new : TeamState) → List Turn → ℕ → Option Stop → Type 0
EndsBox retries old new turns who None = HasTeamWork retries old who → ⊥
EndsBox retries old new turns who (Some Rested) = HasMoved retries old new turns who × (stimuli_at new who ≡ [])
EndsBox retries old new turns who (Some Spent) = HasMoved retries old new turns who
EndsBox retries old new turns who (Some (VersionEnd local)) =
    HasTeamWork retries old who
    × MatchOption (slice_get (stimuli_at new who) 0) ⊥ (λ event. IsLastHear (box_at new.world who) local event)
EndsBox retries old new turns who (Some (NoMemory e)) = ⊥
EndsBox retries old new turns who (Some (Strange end tunnel)) = ⊥

-- the turns are a run; each box used its first commands, in order, counts its Shifts, and made one retry for each slot
-- that owed one, where they were asked for, and else none; and each box's round ended like this
pub record IsTeamRound (retries : Bool) (old new : TeamState) (turns : List Turn)
    (stops : List (Option Stop)) : Type 0 where
  pub runs : run old.world turns ≡ Some new.world
  pub commands : (who : ℕ)
      → commands_of who turns ++ map (turn_of who) (stimuli_at new who) ≡ map (turn_of who) (stimuli_at old who)
  pub shifts : (who : ℕ) → shifts_at new who ≡ shifts_at old who + count_by (is_shift_of who) turns
  pub few_shifts : (who : ℕ) → shifts_at new who ≤ SHIFT_LIMIT
  pub retried : (who local : ℕ)
      → count_by (is_retry_of who local) turns ≡ (if retries && world_owes old.world who local then 1 else 0)
  pub count : length stops ≡ length old.world.boxes
  pub each : (who : ℕ) → who < length old.world.boxes
      → EndsBox retries old new turns who (slice_index_or stops who None)

-- ---- what the boxes keep of a round

-- why a round has ended
abbrev pub stop_of : Option RoundEnd → Option Stop
stop_of None = None
stop_of (Some end) = Some end.stop

-- the stops, box by box; none where a box made no round
abbrev pub round_stops : List Member → List (Option Stop)
round_stops members = map (λ (member : Member). stop_of member.end) members

-- the logs, box by box
abbrev pub round_logs : List Member → List (List Logged)
round_logs members = map (λ (member : Member). member.worker.log.items) members
